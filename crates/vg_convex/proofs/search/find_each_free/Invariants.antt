use Rattle.std.proofs.Common.{◌+◌, ◌<◌, ◌≤◌, length}
use Rattle.vg_convex.specs.Answers.{AreServed}
use Rattle.vg_convex.specs.Places.{AreFrontOf}
use Rattle.vg_convex.proofs.search.find_each_free.Given as goal

abbrev pub ghost-put_served : goal.ghost-put_served
ghost-put_served g a = g.xs

abbrev pub ghost-put_others : goal.ghost-put_others
ghost-put_others g a = g.xs

abbrev pub invariant-points : goal.invariant-points
invariant-points g l = record {
  some : 0 < l.left;
  left : l.left ≤ length l.stack;
  inside : l.at ≤ length l.drivers;
  front : AreFrontOf g.xs l.stack l.left l.drivers l.at;
  served : AreServed l.allowed l.reps g.xs l.drivers 0 l.at l.fn.found l.found;
  cost : l.steps + l.left ≤ l.fn.steps + length l.stack + l.at;
}

abbrev pub decreases-points : goal.decreases-points
decreases-points g l = l.left
