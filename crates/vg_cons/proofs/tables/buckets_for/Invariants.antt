use Rattle.std.proofs.Common.{◌<◌, ◌≤◌, ◌^◌, ◌-◌}
use Rattle.vg_cons.proofs.tables.buckets_for.Given as goal

abbrev pub invariant-double : goal.invariant-double
invariant-double l = (0 < l.buckets) × (l.buckets ≤ 2 ^ 32)

abbrev pub decreases-double : goal.decreases-double
decreases-double l = l.bytes - l.buckets
