use Rattle.std.proofs.Common.{ℕ, ◌<◌}
use Rattle.elmore.specs.Trees.{parent_of}
use Rattle.elmore.proofs.tree.parents_are_smaller.Given as goal

abbrev pub invariant-children : goal.invariant-children
invariant-children l = (k : ℕ) → 0 < k → k < l.v → parent_of l.nodes k < k
