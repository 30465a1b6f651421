use Rattle.std.proofs.Common.{◌≡◌, ℕ, ◌+◌, ◌≤◌, length}
use Rattle.vg_convex.specs.Hulls.{IsReadySoFar}
use Rattle.vg_convex.specs.Places.{row, IsPointOf, IsHullOf}
use Rattle.vg_convex.proofs.hull.put_on.Given as goal

abbrev pub invariant-pops : goal.invariant-pops
invariant-pops g l = record {
  few : l.left ≤ length l.stack.items;
  ready : (n : ℕ) (h : IsHullOf g.xs n l.stack.items) → IsPointOf g.xs l.point n → IsReadySoFar (row g.xs) n h.numbers l.left;
  cost : l.steps + l.left ≡ l.fn.steps + length l.stack.items;
}

abbrev pub decreases-pops : goal.decreases-pops
decreases-pops g l = l.left
