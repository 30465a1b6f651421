use Rattle.std.proofs.Common.{◌<◌, ◌≤◌, ◌^◌, ◌-◌}
use Rattle.spef_net.proofs.connections.slots_for.Given as goal

abbrev pub invariant-double : goal.invariant-double
invariant-double l = (0 < l.slots) × (l.slots ≤ 2 ^ 23)

abbrev pub decreases-double : goal.decreases-double
decreases-double l = l.bytes - l.slots
