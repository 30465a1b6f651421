use Rattle.std.proofs.Common.{◌-◌, ◌<◌, ◌≤◌, length, get_or}
use Rattle.ver_module.proofs.nets.last_up_to.Given as goal

abbrev pub invariant-halve : goal.invariant-halve
invariant-halve l =
    (l.low < l.high) × (l.high ≤ length l.firsts) × (get_or l.firsts l.low 0 ≤ l.id)
    × (l.high < length l.firsts → l.id < get_or l.firsts l.high 0)

abbrev pub decreases-halve : goal.decreases-halve
decreases-halve l = l.high - l.low
