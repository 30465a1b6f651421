use Rattle.std.proofs.Common.{◌≡◌, ℕ, ◌+◌, ◌-◌, ◌^◌, ◌<◌, ◌≤◌, ◌<ℤ◌, ◌≤ℤ◌, length}
use Rattle.vg_convex.specs.Hulls.{value}
use Rattle.vg_convex.specs.Places.{row, IsHullOf}
use Rattle.vg_convex.proofs.hull.greatest_on.Given as goal

abbrev pub invariant-search : goal.invariant-search
invariant-search g l = record {
  order : l.low ≤ l.high;
  inside : l.high < length l.stack;
  before : (n : ℕ) (h : IsHullOf g.xs n l.stack) (j : ℕ) → j + 1 ≡ l.low
      → value l.r (row g.xs (h.numbers j)) <ℤ value l.r (row g.xs (h.numbers l.low));
  after : (n : ℕ) (h : IsHullOf g.xs n l.stack) → l.high + 1 < length l.stack
      → value l.r (row g.xs (h.numbers (l.high + 1))) ≤ℤ value l.r (row g.xs (h.numbers l.high));
  cost : (d : ℕ) → length l.stack ≤ 2 ^ d → (e : ℕ) × (l.steps + e ≤ l.fn.steps + d) × (l.high - l.low < 2 ^ e);
}

abbrev pub decreases-search : goal.decreases-search
decreases-search g l = l.high - l.low
