use Rattle.std.proofs.Common.{◌≤◌, ◌-◌, length, take}
use Rattle.vg_front.specs.Offers.{Adds, OfSome}
use Rattle.vg_front.specs.Tries.{IsTriedBy, AreBests}
use Rattle.vg_front.proofs.tries.try_all.Given as goal

abbrev pub invariant-runs : goal.invariant-runs
invariant-runs l = record {
  within : l.from ≤ length l.xs;
  tried : Adds (OfSome l.numbers (IsTriedBy l.site l.reps (take l.from l.xs))) l.fn.made.items l.made.items;
  bests : AreBests l.reps l.made.items l.bests;
}

abbrev pub decreases-runs : goal.decreases-runs
decreases-runs l = length l.xs - l.from
