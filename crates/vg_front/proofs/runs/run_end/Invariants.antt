use Rattle.std.proofs.Common.{◌-◌, length}
use Rattle.vg_front.specs.Meeting.{IsRunAt}
use Rattle.vg_front.proofs.runs.run_end.Given as goal

abbrev pub invariant-run : goal.invariant-run
invariant-run l = IsRunAt l.xs l.from l.end

abbrev pub decreases-run : goal.decreases-run
decreases-run l = length l.xs - l.end
