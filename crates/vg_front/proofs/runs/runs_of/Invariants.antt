use Rattle.std.proofs.Common.{◌≤◌, ◌-◌, length, take}
use Rattle.vg_front.specs.Runs.{AreRunsOf}
use Rattle.vg_front.proofs.runs.runs_of.Given as goal

abbrev pub invariant-runs : goal.invariant-runs
invariant-runs l = record { within : l.from ≤ length l.xs; so_far : AreRunsOf l.xs (take l.from l.xs) l.runs.items }

abbrev pub decreases-runs : goal.decreases-runs
decreases-runs l = length l.xs - l.from
