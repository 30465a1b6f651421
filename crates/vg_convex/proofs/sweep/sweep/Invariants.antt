use Rattle.std.proofs.Common.{◌≡◌, [], take}
use Rattle.vg_convex.specs.Answers.{found_by, AreSwept}
use Rattle.vg_convex.specs.Orders.{reps_of_pins}
use Rattle.vg_convex.proofs.sweep.sweep.Given as goal

abbrev pub invariant-pins : goal.invariant-pins
invariant-pins l = record {
  none : l.kept.items ≡ [];
  swept : AreSwept l.reps (found_by l.reps l.buffers l.inverters) (take l.at (reps_of_pins l.pins)) l.kept.items;
}
