-- The laws of grammars and machines.
use Rattle.std.proofs.Common.{◌≡◌, ◌↔◌, ℕ, ◌<◌, Bool, true, false, List, [], ◌∷◌, ◌++◌, Option, Some, None, is_some, refl, append_assoc, arith}
use Rattle.std.proofs.lemmas.List.{append-nil}
use Rattle.grammar_laws.specs.Grammar.{Part, Derives, Begins, IsFault}
use Rattle.grammar_laws.specs.Ways.{IsLeft}
use Rattle.grammar_laws.specs.Machines.{IsMachine, ways_of, run, is_done}
use Rattle.grammar_laws.specs.Laws.{BreakOnce, GoesOn, Ends}
use Rattle.grammar_laws.proofs.WayLemmas.{left_start, left_step}
use Rattle.grammar_laws.proofs.MachineLemmas.{begun_by, ended, cut}

three_ways : (p q : ℕ) → (p < q → ⊥) → (q < p → ⊥) → p ≡ q
three_ways p q f g = omega (arith, f, g)

module _ {N T : Type 0} (rules : N → Part N T) where
  later : (part : Part N T) (tokens : List T) (p q : ℕ) → IsFault rules part tokens p → IsFault rules part tokens q → p < q → ⊥
  later part tokens p q f g h = f.here (omega (arith, g.within)) (g.before p h)

  pub break_once : BreakOnce rules
  break_once part tokens p q f g = three_ways p q (later part tokens p q f g) (later part tokens q p g f)

module _ {N T S : Type 0} (rules : N → Part N T) (ways : S → List (List (Part N T))) (move : S → T → Option S) (done : S → Bool)
    (m : IsMachine rules ways move done) (part : Part N T) where
  moved : (o : Option S) (t : T) (front : List T) → IsLeft rules part front (ways_of ways o) → IsLeft rules part (front ++ t ∷ []) (ways_of ways (run move o (t ∷ [])))
  moved None t front l = left_step rules m.proper part front t [] l
  moved (Some s) t front l = rw m.moves (left_step rules m.proper part front t (ways s) l)

  run_more : (o : Option S) (t : T) (tokens : List T) → run move o (t ∷ tokens) ≡ run move (run move o (t ∷ [])) tokens
  run_more None t tokens = refl
  run_more (Some s) t tokens = refl

  ran : (tokens : List T) (o : Option S) (front : List T) → IsLeft rules part front (ways_of ways o) → IsLeft rules part (front ++ tokens) (ways_of ways (run move o tokens))
  ran [] o front l = rw append-nil l
  ran (t ∷ tokens) o front l =
      rw (run_more o t tokens, ← append_assoc front (t ∷ []) tokens) (ran tokens (run move o (t ∷ [])) (front ++ t ∷ []) (moved o t front l))

  over : (start : S) → ways start ≡ (part ∷ []) ∷ [] → (tokens : List T) → IsLeft rules part tokens (ways_of ways (run move (Some start) tokens))
  over start e tokens = ran tokens (Some start) [] (rw e (left_start rules m.proper part))

  no_more : (tokens : List T) → IsLeft rules part tokens [] → Begins rules part tokens → ⊥
  no_more tokens l b = l.begins [] (rw append-nil b)

  goes_by : (o : Option S) (tokens : List T) → IsLeft rules part tokens (ways_of ways o) → (is_some o ≡ true) ↔ Begins rules part tokens
  goes_by None tokens l = ((λ e. absurd (cc)), (λ b. absurd (no_more tokens l b)))
  goes_by (Some s) tokens l = ((λ e. begun_by rules m.proper part tokens (ways s) (m.some_way s) l), (λ b. refl))

  done_by : (b : Bool) (s : S) (tokens : List T) → done s ≡ b → IsLeft rules part tokens (ways s) → (b ≡ true) ↔ Derives rules part tokens
  done_by true s tokens e l = ((λ f. ended rules ways move done m part tokens s l e), (λ d. refl))
  done_by false s tokens e l = let f = cut rules ways move done m part tokens s l e in ((λ g. absurd (cc)), (λ d. absurd (f.broken d)))

  ends_by : (o : Option S) (tokens : List T) → IsLeft rules part tokens (ways_of ways o) → (is_done done o ≡ true) ↔ Derives rules part tokens
  ends_by None tokens l = ((λ e. absurd (cc)), (λ d. absurd (l.derives [] (rw append-nil d))))
  ends_by (Some s) tokens l = done_by (done s) s tokens refl l

module _ {N T S : Type 0} (rules : N → Part N T) (ways : S → List (List (Part N T))) (move : S → T → Option S) (done : S → Bool)
    (m : IsMachine rules ways move done) where
  pub goes_on : GoesOn rules ways move
  goes_on part start e tokens = goes_by rules ways move done m part (run move (Some start) tokens) tokens (over rules ways move done m part start e tokens)

  pub ends : Ends rules ways move done
  ends part start e tokens = ends_by rules ways move done m part (run move (Some start) tokens) tokens (over rules ways move done m part start e tokens)
