-- The upper hull of a rising row of pairs, on which a repeater finds its best pair (Li and Shi 2005). A row is a
-- function from number to pair, of which the first n count; a stack is a function from place to number, of which the
-- first top count.
use Rattle.std.specs.Prelude.{◌≡◌, ℕ, ◌+◌, ◌-◌, ◌*◌, ◌<◌, ℤ, pos, ◌-ℤ◌, ◌*ℤ◌, ◌≤ℤ◌, ◌<ℤ◌}
use Rattle.elmore.specs.Pairs.{IsBelow}
use Rattle.elmore.specs.declared.pair.Pair.{Pair}

-- what a pair is worth above a resistance
abbrev pub value : ℕ → Pair → ℤ
value r x = x.q -ℤ pos (r * x.c)

-- of three pairs by rising load the middle one lies strictly above the line through the others, or on or below it
abbrev pub Bends : Pair → Pair → Pair → Type 0
Bends a b c = ((c.q -ℤ b.q) *ℤ pos (b.c - a.c)) <ℤ ((b.q -ℤ a.q) *ℤ pos (c.c - b.c))

abbrev pub Sags : Pair → Pair → Pair → Type 0
Sags a b c = ((b.q -ℤ a.q) *ℤ pos (c.c - b.c)) ≤ℤ ((c.q -ℤ b.q) *ℤ pos (b.c - a.c))

-- the first n pairs rise strictly in both
abbrev pub Rise : (ℕ → Pair) → ℕ → Type 0
Rise x n = (i j : ℕ) → i < j → j < n → IsBelow (x i) (x j)

-- a pair of the stack is worth no less above this resistance
abbrev pub IsServed : (ℕ → Pair) → (ℕ → ℕ) → ℕ → ℕ → Pair → Type 0
IsServed x s top r y = (j : ℕ) × (j < top) × (value r y ≤ℤ value r (x (s j)))

-- the stack names some of the first n pairs in their order, the first among them, and bends everywhere
pub record IsChain (x : ℕ → Pair) (n : ℕ) (s : ℕ → ℕ) (top : ℕ) : Type 0 where
  pub some : 0 < top
  pub first : s 0 ≡ 0
  pub inside : (j : ℕ) → j < top → s j < n
  pub rising : (i j : ℕ) → i < j → j < top → s i < s j
  pub bends : (j : ℕ) → j + 2 < top → Bends (x (s j)) (x (s (j + 1))) (x (s (j + 2)))

-- each pair between two neighbours of the stack lies on or below the line through them
abbrev pub LieBelow : (ℕ → Pair) → (ℕ → ℕ) → ℕ → Type 0
LieBelow x s top = (j i : ℕ) → j + 1 < top → s j < i → i < s (j + 1) → Sags (x (s j)) (x i) (x (s (j + 1)))

-- the upper hull of the first n pairs
pub record IsHull (x : ℕ → Pair) (n : ℕ) (s : ℕ → ℕ) (top : ℕ) : Type 0 where
  pub chain : IsChain x n s top
  pub last : s (top - 1) + 1 ≡ n
  pub below : LieBelow x s top

-- the same while number n is about to come on: what was taken off lies on or below the line from the stack's last pair
-- to n
pub record IsReady (x : ℕ → Pair) (n : ℕ) (s : ℕ → ℕ) (top : ℕ) : Type 0 where
  pub chain : IsChain x n s top
  pub below : LieBelow x s top
  pub rest : (i : ℕ) → s (top - 1) < i → i < n → Sags (x (s (top - 1))) (x i) (x n)

-- place p of the stack is worth more than the one before it, and no less than the one after it
pub record IsPeak (x : ℕ → Pair) (s : ℕ → ℕ) (top r p : ℕ) : Type 0 where
  pub inside : p < top
  pub before : (j : ℕ) → j + 1 ≡ p → value r (x (s j)) <ℤ value r (x (s p))
  pub after : p + 1 < top → value r (x (s (p + 1))) ≤ℤ value r (x (s p))

-- number i is worth the most of the first n above this resistance
pub record IsGreatest (x : ℕ → Pair) (n r i : ℕ) : Type 0 where
  pub inside : i < n
  pub most : (j : ℕ) → j < n → value r (x j) ≤ℤ value r (x i)

-- the hull of the first n pairs, or nothing yet
pub record IsHullSoFar (x : ℕ → Pair) (n : ℕ) (s : ℕ → ℕ) (top : ℕ) : Type 0 where
  pub none : n ≡ 0 → top ≡ 0
  pub some : 0 < n → IsHull x n s top

pub record IsReadySoFar (x : ℕ → Pair) (n : ℕ) (s : ℕ → ℕ) (top : ℕ) : Type 0 where
  pub none : n ≡ 0 → top ≡ 0
  pub some : 0 < n → IsReady x n s top
