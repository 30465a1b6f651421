-- The candidates of a list by their numbers, their places and their points.
use Rattle.std.proofs.Common.{◌≡◌, ℕ, zero, suc, ◌+◌, ◌<◌, List, [], ◌∷◌, length, get_or, drop, ℤ, sym, ap, subst, arith, inl, inr, pos}
use Rattle.std.proofs.lemmas.Bool.{cases_lt}
use Rattle.std.specs.List.{AllPairs}
use Rattle.std.proofs.lemmas.List.{drop_all, drop_more, get_or-map, length-map}
use Rattle.elmore.specs.Pairs.{IsBelow}
use Rattle.elmore.specs.declared.pair.Pair.{Pair}
use Rattle.cand_pool.specs.Candidates.{Candidate, Candidates, IsModest, AreModest}
use Rattle.cand_pool.specs.Pools.{Block, IsPlace}
use Rattle.cand_pool.specs.declared.ends.Cand.{Cand}
use Rattle.vg_convex.specs.Hulls.{Rise}
use Rattle.cand_uses.specs.Pairs.{pair_of, pairs_of}
use Rattle.vg_convex.specs.Places.{candidate_at, row, told_by, pair_in, IsPointOf, IsNumber}
use Rattle.vg_convex.specs.declared.work.Point.{Point}

-- a number with a place is of the list
pub inside : (s : Block) (xs : Candidates) (place : Cand) (i : ℕ) → IsNumber s xs place i → i < length xs
inside s xs place i at = elim (cases_lt i (length xs)) [
  | inl low ↦ low
  | inr high ↦ absurd (at.some (drop_all i xs high))
]

pub at_place : (s : Block) (xs : Candidates) (place : Cand) (i : ℕ) → IsNumber s xs place i → IsPlace s place (candidate_at xs i ∷ drop (i + 1) xs)
at_place s xs place i at =
    subst (λ (l : List Candidate). IsPlace s place l) (drop_more xs i (record { q = pos 0; c = 0; tag = 0 }) (inside s xs place i at)) at

pub modest_at : (xs : Candidates) (i : ℕ) (d : Candidate) → AreModest xs → i < length xs → IsModest (get_or xs i d)
modest_at [] i d all low = absurd (omega arith)
modest_at (x ∷ xs) zero d all low = all.0
modest_at (x ∷ xs) (suc i) d all low = modest_at xs i d all.1 (omega (arith, low))

-- a point that was made of what a pool tells of a candidate
pub point_told : (xs : Candidates) (i : ℕ) (q : ℤ) (c tag : ℕ) → i < length xs → q ≡ (candidate_at xs i).q → c ≡ (candidate_at xs i).c → tag ≡ (candidate_at xs i).tag
    → IsPointOf xs (record { q = q; c = c; tag = tag }) i
point_told xs i q c tag low q_is c_is tag_is = record {
  inside = low;
  told = λ k. record { q = q_is k; c = c_is k; tag = tag_is k };
}

-- a point of a list within the limits
pub modest_point : (xs : Candidates) (point : Point) (i : ℕ) → AreModest xs → IsPointOf xs point i → IsModest (told_by point)
modest_point xs point i all is =
    subst (λ (x : Candidate). IsModest x) (sym is.told) (modest_at xs i (record { q = pos 0; c = 0; tag = 0 }) all is.inside)

-- the pair of a point
pub pair_is : (xs : Candidates) (point : Point) (i : ℕ) → IsPointOf xs point i → pair_in point ≡ row xs i
pair_is xs point i is = ap pair_of is.told

-- a list that rises
pub rise_of : (xs : Candidates) → AllPairs IsBelow (pairs_of xs) → Rise (row xs) (length xs)
rise_of xs rising i j less low =
    subst (λ (p : Pair). IsBelow (row xs i) p) (get_or-map pair_of xs j (record { q = pos 0; c = 0; tag = 0 }) (record { q = pos 0; c = 0 }) low)
    (subst (λ (p : Pair). IsBelow p (get_or (pairs_of xs) j (record { q = pos 0; c = 0 })))
    (get_or-map pair_of xs i (record { q = pos 0; c = 0; tag = 0 }) (record { q = pos 0; c = 0 }) (omega (arith, less, low)))
    (rising i j (record { q = pos 0; c = 0 }) less (omega (arith, low, length-map xs pair_of))))
