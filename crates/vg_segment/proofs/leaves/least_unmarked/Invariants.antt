use Rattle.vg_segment.specs.Leaves.{AreUnmarkedBelow}
use Rattle.vg_segment.proofs.leaves.least_unmarked.Given as goal

abbrev pub invariant-number : goal.invariant-number
invariant-number l = AreUnmarkedBelow l.marks l.count l.k l.leaves.items
