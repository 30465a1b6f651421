-- The hull of the candidates of a list, on a stack of points, and a walk along the list's places in a pool.
use Rattle.std.specs.Prelude.{◌≡◌, ℕ, ◌-◌, ◌<◌, ◌≤◌, ◌≤ℤ◌, List, [], length, drop, slice_index_or, pos, Option, MatchOption}
use Rattle.elmore.specs.Legal.{IsWithin}
use Rattle.cand_pool.specs.Candidates.{Candidate, Candidates, AreModest}
use Rattle.cand_pool.specs.Pools.{Block, IsPlace}
use Rattle.cand_pool.specs.declared.ends.Cand.{Cand}
use Rattle.elmore.specs.declared.pair.Pair.{Pair}
use Rattle.cand_uses.specs.Pairs.{pair_of}
use Rattle.vg_convex.specs.Hulls.{value, Rise, IsHullSoFar}
use Rattle.vg_convex.specs.declared.shelf.Driver.{Driver}
use Rattle.vg_convex.specs.declared.work.Point.{Point}

-- the candidate with a number, and the pairs of a list by their numbers
abbrev pub candidate_at : Candidates → ℕ → Candidate
candidate_at xs i = slice_index_or xs i (record { q = pos 0; c = 0; tag = 0 })

abbrev pub row : Candidates → ℕ → Pair
row xs i = pair_of (candidate_at xs i)

-- the candidate that a point tells of, and its pair
abbrev pub told_by : Point → Candidate
told_by point = record { q = point.q; c = point.c; tag = point.tag }

abbrev pub pair_in : Point → Pair
pair_in point = pair_of (told_by point)

-- the point tells of candidate number i of a list
pub record IsPointOf (xs : Candidates) (point : Point) (i : ℕ) : Type 0 where
  pub inside : i < length xs
  pub told : told_by point ≡ candidate_at xs i

-- the stack has the points of the hull of the first n candidates of a list, which rises and is within the pool's limits
pub record IsHullOf (xs : Candidates) (n : ℕ) (stack : List Point) : Type 0 where
  pub rise : Rise (row xs) (length xs)
  pub modest : AreModest xs
  pub few : n ≤ length xs
  pub numbers : ℕ → ℕ
  pub points : (j : ℕ) (d : Point) → j < length stack → IsPointOf xs (slice_index_or stack j d) (numbers j)
  pub hull : IsHullSoFar (row xs) n numbers (length stack)

-- from this place on stand the candidates of a list from number i on
abbrev pub IsNumber : Block → Candidates → Cand → ℕ → Type 0
IsNumber s xs place i = IsPlace s place (drop i xs)

-- the place of candidate number n, or none where n is how many there are
abbrev pub IsNext : Block → Candidates → ℕ → Option Cand → Type 0
IsNext s xs n next = MatchOption next (drop n xs ≡ []) (λ place. IsNumber s xs place n)

-- the hull of the first n candidates, and the place of the next one
pub record IsWalk (s : Block) (xs : Candidates) (n : ℕ) (stack : List Point) (next : Option Cand) : Type 0 where
  pub hull : IsHullOf xs n stack
  pub more : IsNext s xs n next

-- the walk went on from candidate n; those between are within the limit
pub record IsFurther (s : Block) (xs : Candidates) (limit : Option ℕ) (n : ℕ) (stack : List Point)
    (next : Option Cand) : Type 0 where
  pub seen : ℕ
  pub more : n ≤ seen
  pub within : (i : ℕ) → n ≤ i → i < seen → IsWithin limit (row xs i).c
  pub walk : IsWalk s xs seen stack next

-- candidate n, if there is one, is over the limit
abbrev pub IsOver : Option ℕ → Candidates → ℕ → Type 0
IsOver limit xs n = n < length xs → IsWithin limit (row xs n).c → ⊥

-- the first n candidates are those within the limit
pub record AreWithin (limit : Option ℕ) (xs : Candidates) (n : ℕ) : Type 0 where
  pub within : (i : ℕ) → i < n → IsWithin limit (row xs i).c
  pub past : IsOver limit xs n

-- so many points are left of the hull of all candidates; above a resistance the one that came after them is worth no
-- more than the last of them
pub record IsFrontOf (xs : Candidates) (stack : List Point) (left r : ℕ) : Type 0 where
  pub hull : IsHullOf xs (length xs) stack
  pub some : 0 < left
  pub inside : left ≤ length stack
  pub falls : left < length stack → value r (row xs (hull.numbers left)) ≤ℤ value r (row xs (hull.numbers (left - 1)))

-- the same above the resistances of the drivers from one place of an order on
abbrev pub AreFrontOf : Candidates → List Point → ℕ → List Driver → ℕ → Type 0
AreFrontOf xs stack left drivers from =
    (i : ℕ) (d : Driver) → from ≤ i → i < length drivers → IsFrontOf xs stack left (slice_index_or drivers i d).r
