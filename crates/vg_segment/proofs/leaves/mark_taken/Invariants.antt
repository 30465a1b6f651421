use Rattle.std.proofs.Common.{take}
use Rattle.vg_segment.specs.Leaves.{AreMarked}
use Rattle.vg_segment.proofs.leaves.mark_taken.Given as goal

abbrev pub invariant-node : goal.invariant-node
invariant-node l = AreMarked l.net.name (take l.at l.net.nodes) l.last l.marks.items
