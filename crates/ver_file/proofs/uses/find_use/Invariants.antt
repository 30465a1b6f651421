use Rattle.std.proofs.Common.{◌≤◌, ◌-◌, length}
use Rattle.ver_file.proofs.uses.find_use.Given as goal

abbrev pub invariant-back : goal.invariant-back
invariant-back l = record { within : l.at ≤ length l.uses }

abbrev pub decreases-back : goal.decreases-back
decreases-back l = l.at

abbrev pub invariant-place : goal.invariant-place
invariant-place l = record { onward : l.initial.at ≤ l.at }

abbrev pub decreases-place : goal.decreases-place
decreases-place l = length l.uses - l.at
