use Rattle.std.proofs.Common.{◌<◌, ◌≤◌, ◌^◌, ◌-◌}
use Rattle.vg_design.proofs.ends.buckets_for.Given as goal

abbrev pub invariant-double : goal.invariant-double
invariant-double l = (0 < l.buckets) × (l.buckets ≤ 2 ^ 32)

abbrev pub decreases-double : goal.decreases-double
decreases-double l = l.ends - l.buckets
