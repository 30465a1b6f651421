-- A machine finds the first token that is not allowed.
use Rattle.std.proofs.Common.{◌≡◌, ℕ, ◌+◌, ◌<◌, Bool, true, false, ◌||◌, List, [], ◌∷◌, ◌++◌, length, take, get_or, Option, Some, None, refl, sym, ap, ◌∙◌, inl, inr}
use Rattle.std.proofs.lemmas.List.{take_more, append-nil}
use Rattle.grammar_laws.specs.Grammar.{Part, Derives, Begins, IsFault}
use Rattle.grammar_laws.specs.Ways.{IsProper, after_any, AnyOf, IsLeft, can_end, can_stop}
use Rattle.grammar_laws.specs.Machines.{IsMachine, ways_of, has_way}
use Rattle.grammar_laws.proofs.PartLemmas.{or_one}
use Rattle.grammar_laws.proofs.WayLemmas.{left_start, left_step, begun, whole, fault_at, fault_at_end}

module _ {N T : Type 0} where
  stops_some : (ways : List (List (Part N T))) → can_stop ways ≡ true → AnyOf (λ ks. can_end ks ≡ true) ways
  stops_some [] e = absurd (cc)
  stops_some (way ∷ ways) e = elim (or_one (can_end way) (can_stop ways) e) [ inl f ↦ inl f | inr f ↦ inr (stops_some ways f) ]

  some_stops : (ways : List (List (Part N T))) → AnyOf (λ ks. can_end ks ≡ true) ways → can_stop ways ≡ true
  some_stops [] h = absurd h
  some_stops (way ∷ ways) (inl e) = rw e refl
  some_stops (way ∷ ways) (inr h) = or_true (can_end way) (can_stop ways) (some_stops ways h)
    where
      or_true : (a b : Bool) → b ≡ true → (a || b) ≡ true
      or_true true b e = refl
      or_true false b e = e

module _ {N T : Type 0} (rules : N → Part N T) (proper : IsProper rules) (part : Part N T) where
  pub begun_by : (ts : List T) (all : List (List (Part N T))) → has_way all ≡ true → IsLeft rules part ts all → Begins rules part ts
  begun_by ts [] h l = absurd (cc)
  begun_by ts (way ∷ more) h l = begun rules proper part ts way more l

module _ {N T S : Type 0} (rules : N → Part N T) (ways : S → List (List (Part N T))) (move : S → T → Option S) (done : S → Bool)
    (m : IsMachine rules ways move done) (part : Part N T) where
  pub started : (s : S) → ways s ≡ (part ∷ []) ∷ [] → IsLeft rules part [] (ways s)
  started s e = rw e (left_start rules m.proper part)

  pub stepped : (ts : List T) (i : ℕ) (d : T) (s next : S) → IsLeft rules part (take i ts) (ways s) → i < length ts
      → move s (get_or ts i d) ≡ Some next → IsLeft rules part (take (i + 1) ts) (ways next)
  stepped ts i d s next l in_ts e =
      let same : after_any rules (ways s) (get_or ts i d) ≡ ways next = sym (m.moves s (get_or ts i d)) ∙ ap (ways_of ways) e in
      rw (take_more ts i d in_ts, ← same) (left_step rules m.proper part (take i ts) (get_or ts i d) (ways s) l)

  stuck_at : (ts : List T) (i : ℕ) (d : T) (all : List (List (Part N T))) → has_way all ≡ true → IsLeft rules part (take i ts) all → i < length ts
      → after_any rules all (get_or ts i d) ≡ [] → IsFault rules part ts i
  stuck_at ts i d [] h l in_ts e = absurd (cc)
  stuck_at ts i d (way ∷ more) h l in_ts e = fault_at rules m.proper part ts i d way more l in_ts e

  pub stuck : (ts : List T) (i : ℕ) (d : T) (s : S) → IsLeft rules part (take i ts) (ways s) → i < length ts
      → move s (get_or ts i d) ≡ None → IsFault rules part ts i
  stuck ts i d s l in_ts e = stuck_at ts i d (ways s) (m.some_way s) l in_ts (sym (m.moves s (get_or ts i d)) ∙ ap (ways_of ways) e)

  pub ended : (ts : List T) (s : S) → IsLeft rules part ts (ways s) → done s ≡ true → Derives rules part ts
  ended ts s l e = whole rules m.proper part ts (ways s) l (stops_some (ways s) (sym (m.stops s) ∙ e))

  cut_at : (ts : List T) (all : List (List (Part N T))) → has_way all ≡ true → IsLeft rules part ts all → can_stop all ≡ false → IsFault rules part ts (length ts)
  cut_at ts [] h l e = absurd (cc)
  cut_at ts (way ∷ more) h l e = fault_at_end rules m.proper part ts way more l (λ k. let x = some_stops (way ∷ more) k in absurd (cc))

  pub cut : (ts : List T) (s : S) → IsLeft rules part ts (ways s) → done s ≡ false → IsFault rules part ts (length ts)
  cut ts s l e = cut_at ts (ways s) (m.some_way s) l (sym (m.stops s) ∙ e)

  -- which tokens would be allowed next
  pub would : (done : List T) (t : T) (s next : S) → IsLeft rules part done (ways s) → move s t ≡ Some next → Begins rules part (done ++ t ∷ [])
  would done t s next l e =
      let same : after_any rules (ways s) t ≡ ways next = sym (m.moves s t) ∙ ap (ways_of ways) e in
      let more : IsLeft rules part (done ++ t ∷ []) (ways next) = rw (← same) (left_step rules m.proper part done t (ways s) l) in
      begun_by rules m.proper part (done ++ t ∷ []) (ways next) (m.some_way next) more

  pub would_not : (done : List T) (t : T) (s : S) → IsLeft rules part done (ways s) → move s t ≡ None → Begins rules part (done ++ t ∷ []) → ⊥
  would_not done t s l e b =
      let same : after_any rules (ways s) t ≡ [] = sym (m.moves s t) ∙ ap (ways_of ways) e in
      let more : IsLeft rules part (done ++ t ∷ []) [] = rw same at (left_step rules m.proper part done t (ways s) l) in
      more.begins [] (rw append-nil b)
