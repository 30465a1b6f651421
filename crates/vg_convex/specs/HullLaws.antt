-- The laws of hulls.
use Rattle.std.specs.Prelude.{◌≡◌, ℕ, ◌+◌, ◌<◌, ◌≤◌, ◌≤ℤ◌, ◌<ℤ◌}
use Rattle.vg_convex.specs.Hulls.{value, Bends, Sags, Rise, IsServed, IsChain, IsHull, IsReady, IsPeak, IsGreatest}
use Rattle.elmore.specs.declared.pair.Pair.{Pair}

-- above any resistance some pair of the hull is worth no less than a pair of the row
abbrev pub HullServes : Type 0
HullServes = (x : ℕ → Pair) (n : ℕ) (s : ℕ → ℕ) (top : ℕ) → Rise x n → IsHull x n s top → (r i : ℕ) → i < n
    → IsServed x s top r (x i)

-- along a hull, once the next pair is worth no more, each later one is worth less than the one before it
abbrev pub ValuesFall : Type 0
ValuesFall =
    (x : ℕ → Pair) (n : ℕ) (s : ℕ → ℕ) (top r j : ℕ) → Rise x n → IsChain x n s top → j + 1 < top
    → value r (x (s (j + 1))) ≤ℤ value r (x (s j))
    → (k : ℕ) → j + k + 2 < top → value r (x (s (j + k + 2))) <ℤ value r (x (s (j + k + 1)))

-- a peak of the hull is worth the most of the row
abbrev pub PeakIsGreatest : Type 0
PeakIsGreatest = (x : ℕ → Pair) (n : ℕ) (s : ℕ → ℕ) (top r p : ℕ) → Rise x n → IsHull x n s top → IsPeak x s top r p
    → IsGreatest x n r (s p)

-- before a pair goes on, a last pair that sags under it comes off
abbrev pub PairComesOff : Type 0
PairComesOff =
    (x : ℕ → Pair) (n : ℕ) (s : ℕ → ℕ) (t : ℕ) → Rise x (n + 1) → IsReady x n s (t + 2)
    → Sags (x (s t)) (x (s (t + 1))) (x n) → IsReady x n s (t + 1)

-- where the last pair bends, the next goes on
abbrev pub PairGoesOn : Type 0
PairGoesOn =
    (x : ℕ → Pair) (n : ℕ) (s z : ℕ → ℕ) (top : ℕ) → IsReady x n s top
    → ((t : ℕ) → t + 2 ≡ top → Bends (x (s t)) (x (s (t + 1))) (x n))
    → ((j : ℕ) → j < top → z j ≡ s j) → z top ≡ n → IsHull x (n + 1) z (top + 1)

-- with more resistance no later pair is worth more than the one that was worth the most
abbrev pub GreatestTurns : Type 0
GreatestTurns =
    (x : ℕ → Pair) (n r r' i : ℕ) → Rise x n → IsGreatest x n r i → r ≤ r' → (j : ℕ) → i < j → j < n
    → value r' (x j) ≤ℤ value r' (x i)
