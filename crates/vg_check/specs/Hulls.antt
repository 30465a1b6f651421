-- The pairs of a rising list that are worth the most above some resistance: the upper hull. Resistances are whole
-- numbers, and so is the last one above which a point is worth more than the point before it.
use Rattle.std.specs.Prelude.{◌≡◌, ◌⊎◌, ℕ, ◌+◌, ◌*◌, ◌^◌, ◌<◌, ◌≤◌, List, length, slice_index_or, ℤ, pos, ◌-ℤ◌, ◌≤ℤ◌, ◌<ℤ◌, Option}
use Rattle.elmore.specs.Legal.{IsWithin}
use Rattle.elmore.specs.declared.pair.Pair.{Pair}
use Rattle.vg_check.specs.declared.hull.Point.{Point}

-- what a pair is worth above a resistance
abbrev pub value : ℕ → Pair → ℤ
value r x = x.q -ℤ pos (r * x.c)

abbrev pub pair_at : List Pair → ℕ → Pair
pair_at xs i = slice_index_or xs i (record { q = pos 0; c = 0 })

abbrev pub point_at : List Point → ℕ → Point
point_at points j = slice_index_or points j (record { at = 0; last = 0 })

-- above each repeater's resistance up to `last` b is worth more than a, and above none after it
pub record IsLast (a b : Pair) (last : ℕ) : Type 0 where
  pub most : last ≤ 10 ^ 9
  pub until : (r : ℕ) → r ≤ last → value r a <ℤ value r b
  pub after : (r : ℕ) → r ≤ 10 ^ 9 → last < r → value r b ≤ℤ value r a

-- point j is the last of the first `count` that is worth more than the point before it above this resistance
pub record IsPlace (points : List Point) (count r j : ℕ) : Type 0 where
  pub inside : j < count
  pub until : r ≤ (point_at points j).last
  pub next : j + 1 < count → (point_at points (j + 1)).last < r

-- of the first n pairs of the list, some of which the points name, a point is worth the most above each resistance at
-- its place
pub record IsHull (xs : List Pair) (n : ℕ) (points : List Point) : Type 0 where
  pub inside : n ≤ length xs
  pub some : 0 < n → 0 < length points
  pub named : (j : ℕ) → j < length points → (point_at points j).at < n
  pub first : 0 < length points → (point_at points 0).last ≡ 10 ^ 9
  pub falling : (i j : ℕ) → i ≤ j → j < length points → (point_at points j).last ≤ (point_at points i).last
  pub most : (r j : ℕ) → r ≤ 10 ^ 9 → IsPlace points (length points) r j → (i : ℕ) → i < n
      → value r (pair_at xs i) ≤ℤ value r (pair_at xs (point_at points j).at)

-- pair n is about to go on the first top + 1 points of the hull of the pairs before it: above each resistance the point
-- at its place is worth no less than such a pair, or it is the last of these points and n is worth no less
pub record IsReady (xs : List Pair) (n : ℕ) (points : List Point) (top : ℕ) : Type 0 where
  pub inside : top < length points
  pub most : (r j : ℕ) → r ≤ 10 ^ 9 → IsPlace points (top + 1) r j → (i : ℕ) → i < n
      → (value r (pair_at xs i) ≤ℤ value r (pair_at xs (point_at points j).at))
      ⊎ ((j ≡ top) × (value r (pair_at xs i) ≤ℤ value r (pair_at xs n)))

-- the first n pairs are within a limit
abbrev pub AreWithin : Option ℕ → List Pair → ℕ → Type 0
AreWithin limit xs n = (i : ℕ) → i < n → IsWithin limit (pair_at xs i).c

-- the first n pairs are, and the next one is not
pub record AreAllWithin (limit : Option ℕ) (xs : List Pair) (n : ℕ) : Type 0 where
  pub within : AreWithin limit xs n
  pub past : n < length xs → IsWithin limit (pair_at xs n).c → ⊥
