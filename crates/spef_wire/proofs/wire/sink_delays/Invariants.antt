use Rattle.std.specs.List.{AllZip}
use Rattle.spef_wire.specs.Wires.{IsDelay}
use Rattle.spef_wire.proofs.WireLemmas.{sinks_below}
use Rattle.spef_wire.proofs.wire.sink_delays.Given as goal

abbrev pub invariant-node : goal.invariant-node
invariant-node l = AllZip (IsDelay l.found.net l.found.tree.nodes l.found.order) (sinks_below l.found.net l.found.order l.i) l.rows
