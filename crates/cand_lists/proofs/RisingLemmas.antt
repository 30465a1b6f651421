-- Lists whose candidates rise in time and load, and what is kept of them, as lists of pairs.
use Rattle.std.proofs.Common.{ℕ, ◌≤◌, [], ◌∷◌, get_or, refl, sym, arith, inl, inr, ℤ, zero, suc}
use Rattle.std.specs.Prelude.{◌<ℤ◌}
use Rattle.std.specs.List.{All, Contains}
use Rattle.std.proofs.lemmas.Int.{ints}
use Rattle.std.proofs.lemmas.List.Kept.{AllPairs-cons}
use Rattle.std.proofs.lemmas.List.Elements.{All-cons}
use Rattle.elmore.specs.Pairs.{IsBelow}
use Rattle.cand_pool.specs.Candidates.{Candidate, Candidates}
use Rattle.cand_pool.specs.Laws.{IsCandidateOf, RisesOver, RisesInTime, HeaviesFrom, HeavierThan, RisesInLoad, InOrderAfter, IsInOrder}
use Rattle.cand_pool.proofs.RisingLaws.{over_later}
use Rattle.cand_uses.specs.Pairs.{pair_of, pairs_of}
use Rattle.cand_lists.specs.ListLaws.{AreRising}

-- a candidate of a list, by its place and by the first
pub in_list : (xs : Candidates) (z : Candidate) → Contains xs z → IsCandidateOf xs z
in_list [] z (k, k_n, e) = absurd (omega arith)
in_list (x ∷ xs) z (zero, k_n, e) = inl (sym e)
in_list (x ∷ xs) z (suc k, k_n, e) = inr (in_list xs z (k, omega arith, e))

pub at_place : (xs : Candidates) (z : Candidate) → IsCandidateOf xs z → Contains xs z
at_place [] z m = absurd m
at_place (x ∷ xs) z (inl e) = (0, omega arith, sym e)
at_place (x ∷ xs) z (inr m) = let (k, k_n, f) = at_place xs z m in (suc k, omega arith, f)

-- what rises from the first on, and after the first
pub rising_tail : (x : Candidate) (xs : Candidates) → AreRising (x ∷ xs) → AreRising xs
rising_tail x xs rise = λ k j d k_j j_n. rise (suc k) (suc j) d (omega arith) (omega arith)

pub rising_next : (x y : Candidate) (ys : Candidates) → AreRising (x ∷ y ∷ ys) → IsBelow (pair_of x) (pair_of y)
rising_next x y ys rise = rise 0 1 (pair_of x) (omega arith) (omega arith)

pub rising_order : (xs : Candidates) → AreRising xs → IsInOrder xs
rising_order [] rise = tt
rising_order (x ∷ xs) rise = after x xs rise where
  after : (x : Candidate) (xs : Candidates) → AreRising (x ∷ xs) → InOrderAfter x xs
  after x [] rise = tt
  after x (y ∷ ys) rise =
      let below : IsBelow (pair_of x) (pair_of y) = rising_next x y ys rise in
      (omega (arith, below.room), λ e. absurd (omega (arith, below.room, e)), after y ys (rising_tail x (y ∷ ys) rise))

pub rising_heavies : (least : ℕ) (xs : Candidates) → ((x : Candidate) → IsCandidateOf xs x → least ≤ x.c) → AreRising xs → HeaviesFrom least xs
rising_heavies least [] over rise = tt
rising_heavies least (x ∷ xs) over rise = (over x (inl refl), after x xs rise) where
  after : (x : Candidate) (xs : Candidates) → AreRising (x ∷ xs) → HeaviesFrom x.c xs
  after x [] rise = tt
  after x (y ∷ ys) rise =
      let below : IsBelow (pair_of x) (pair_of y) = rising_next x y ys rise in
      (omega (arith, below.room), after y ys (rising_tail x (y ∷ ys) rise))

pub rising_time : (xs : Candidates) → AreRising xs → RisesInTime xs
rising_time [] rise = tt
rising_time (x ∷ xs) rise = after x xs rise where
  after : (x : Candidate) (xs : Candidates) → AreRising (x ∷ xs) → RisesOver x.q xs
  after x [] rise = tt
  after x (y ∷ ys) rise =
      let below : IsBelow (pair_of x) (pair_of y) = rising_next x y ys rise in
      (over_later x.q y.q below.time, after y ys (rising_tail x (y ∷ ys) rise))

-- all after the first are over it in both, where each is over the one before it
pub all_above : (x : Candidate) (xs : Candidates) → RisesOver x.q xs → HeavierThan x.c xs → All (IsBelow (pair_of x)) (pairs_of xs)
all_above x [] rise heavier = λ k d k_n. absurd (omega arith)
all_above x (y ∷ ys) rise heavier =
    let (q_up, q_rest) = rise in
    let (c_up, c_rest) = heavier in
    let y_up : x.q <ℤ y.q = omega (arith, ints, q_up) in
    All-cons (IsBelow (pair_of x)) (pair_of y) (pairs_of ys) (record { time = y_up; room = c_up })
    (λ k d k_n. let b : IsBelow (pair_of y) (get_or (pairs_of ys) k d) = all_above y ys q_rest c_rest k d k_n in
    record { time = omega (arith, ints, b.time, y_up); room = omega (arith, b.room, c_up) })

pub both_rise : (best : ℤ) (xs : Candidates) → RisesOver best xs → RisesInLoad xs → AreRising xs
both_rise best [] rise load = λ k j d k_j j_n. absurd (omega arith)
both_rise best (x ∷ xs) rise load =
    AllPairs-cons IsBelow (pair_of x) (pairs_of xs) (all_above x xs rise.1 load) (both_rise x.q xs rise.1 (rest x.c xs load)) where
      rest : (c : ℕ) (xs : Candidates) → HeavierThan c xs → RisesInLoad xs
      rest c [] heavier = tt
      rest c (y ∷ ys) heavier = heavier.1
