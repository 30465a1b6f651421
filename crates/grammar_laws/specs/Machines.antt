-- Machines that read tokens one by one, and when one reads them as a grammar does.
use Rattle.std.specs.Prelude.{◌≡◌, Option, Some, None, Bool, true, false, List, [], ◌∷◌}
use Rattle.grammar_laws.specs.Grammar.{Part}
use Rattle.grammar_laws.specs.Ways.{IsProper, after_any, can_stop}

-- the ways on in a state that a machine may have come to
abbrev pub ways_of : {N T S : Type 0} → (S → List (List (Part N T))) → Option S → List (List (Part N T))
ways_of ways None = []
ways_of ways (Some s) = ways s

-- there is a way
abbrev pub has_way : {X : Type 0} → List X → Bool
has_way [] = false
has_way (x ∷ xs) = true

-- A machine reads tokens as a grammar does: in each state it stands for some ways on, it moves with a token to the ways
-- after it, and it is done where these ways may end.
pub record IsMachine {N T S : Type 0} (rules : N → Part N T) (ways : S → List (List (Part N T)))
    (move : S → T → Option S) (done : S → Bool) : Type 0 where
  pub proper : IsProper rules
  pub moves : (s : S) (t : T) → ways_of ways (move s t) ≡ after_any rules (ways s) t
  pub stops : (s : S) → done s ≡ can_stop (ways s)
  pub some_way : (s : S) → has_way (ways s) ≡ true

-- the state, if any, to which a machine comes over some tokens, from a state or from none
abbrev pub run : {T S : Type 0} → (S → T → Option S) → Option S → List T → Option S
run move state [] = state
run move None (t ∷ ts) = run move None ts
run move (Some s) (t ∷ ts) = run move (move s t) ts

-- a machine is done in a state that it has come to
abbrev pub is_done : {S : Type 0} → (S → Bool) → Option S → Bool
is_done done None = false
is_done done (Some s) = done s
