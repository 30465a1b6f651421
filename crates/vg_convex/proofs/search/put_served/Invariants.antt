use Rattle.std.proofs.Common.{◌≡◌, ◌+◌, ◌-◌, ◌≤◌, length}
use Rattle.vg_convex.specs.Answers.{AreServed}
use Rattle.vg_convex.proofs.search.put_served.Given as goal

abbrev pub ghost-put_free : goal.ghost-put_free
ghost-put_free g a = g.xs

abbrev pub invariant-drivers : goal.invariant-drivers
invariant-drivers g l = record {
  more : l.fn.from ≤ l.at;
  inside : l.at ≤ length l.drivers;
  served : AreServed l.allowed l.reps g.xs l.drivers l.fn.from l.at l.fn.found l.found;
  cost : l.steps + l.fn.from ≡ l.fn.steps + l.at;
}

abbrev pub decreases-drivers : goal.decreases-drivers
decreases-drivers g l = length l.drivers - l.at
