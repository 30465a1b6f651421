use Rattle.std.proofs.Common.{take}
use Rattle.vg_convex.specs.Answers.{found_by, IsLast, AreSwept}
use Rattle.vg_convex.specs.Orders.{reps_of_pins}
use Rattle.vg_convex.proofs.sweep.keep_all.Given as goal

abbrev pub invariant-pins : goal.invariant-pins
invariant-pins l = record {
  last : IsLast l.kept.items l.last;
  swept : AreSwept l.reps (found_by l.reps l.buffers l.inverters) (take l.at (reps_of_pins l.pins)) l.kept.items;
}
