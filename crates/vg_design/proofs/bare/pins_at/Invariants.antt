use Rattle.std.proofs.Common.{◌≡◌, map, take, get_or, None}
use Rattle.vg_design.proofs.bare.pins_at.Given as goal

abbrev pub invariant-sink : goal.invariant-sink
invariant-sink l = l.found.items ≡ map (λ u. get_or l.pins (get_or l.order u 0) None) (take l.u-index l.sinks)
