-- What is true of every grammar, and of every machine that reads tokens as one does.
use Rattle.std.specs.Prelude.{◌≡◌, ◌↔◌, ℕ, Bool, true, Option, Some, List, [], ◌∷◌, is_some}
use Rattle.grammar_laws.specs.Grammar.{Part, Derives, Begins, IsFault}
use Rattle.grammar_laws.specs.Machines.{IsMachine, run, is_done}

-- tokens break a part at one place at most
abbrev pub BreakOnce : {N T : Type 0} → (N → Part N T) → Type 0
BreakOnce {N} {T} rules =
    (part : Part N T) (tokens : List T) (p q : ℕ) → IsFault rules part tokens p → IsFault rules part tokens q → p ≡ q

-- a machine that starts with a part goes on over exactly the lists of tokens that begin it
abbrev pub GoesOn : {N T S : Type 0} → (N → Part N T) → (S → List (List (Part N T))) → (S → T → Option S) → Type 0
GoesOn {N} {T} {S} rules ways move =
    (part : Part N T) (start : S) → ways start ≡ (part ∷ []) ∷ [] → (tokens : List T)
    → (is_some (run move (Some start) tokens) ≡ true) ↔ Begins rules part tokens

-- it is done after exactly those that are the part
abbrev pub Ends : {N T S : Type 0} → (N → Part N T) → (S → List (List (Part N T)))
    → (S → T → Option S) → (S → Bool) → Type 0
Ends {N} {T} {S} rules ways move done =
    (part : Part N T) (start : S) → ways start ≡ (part ∷ []) ∷ [] → (tokens : List T)
    → (is_done done (run move (Some start) tokens) ≡ true) ↔ Derives rules part tokens

-- every machine that reads tokens as a grammar does has a property
abbrev pub EachMachine : (N T S : Type 0)
    → ((N → Part N T) → (S → List (List (Part N T))) → (S → T → Option S) → (S → Bool) → Type 0) → Type 0
EachMachine N T S Has =
    (rules : N → Part N T) (ways : S → List (List (Part N T))) (move : S → T → Option S) (done : S → Bool)
    → IsMachine rules ways move done → Has rules ways move done
