use Rattle.std.proofs.Common.{◌≡◌, map, take}
use Rattle.vg_design.specs.Parts.{sink_at}
use Rattle.vg_design.proofs.parts.sinks_of.Given as goal

abbrev pub invariant-node : goal.invariant-node
invariant-node l = l.sinks.items ≡ map (sink_at l.cons l.net) (take l.v-index l.order)
