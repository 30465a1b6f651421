use Rattle.std.proofs.Common.{◌≡◌, map, take}
use Rattle.vg_cons.specs.Rows.{required_of}
use Rattle.vg_design.specs.Nets.{name_at}
use Rattle.vg_design.proofs.bare.times_at.Given as goal

abbrev pub invariant-sink : goal.invariant-sink
invariant-sink l = l.times.items ≡ map (λ u. required_of l.cons (name_at l.names u)) (take l.u-index l.sinks)
