use Rattle.std.proofs.Common.{◌≡◌, filter}
use Rattle.std.specs.List.{range_with_len}
use Rattle.elmore.specs.Problems.{is_sink}
use Rattle.vg_design.proofs.bare.sink_nodes.Given as goal

abbrev pub invariant-node : goal.invariant-node
invariant-node l = l.nodes.items ≡ filter (is_sink l.sinks) (range_with_len 0 l.at)
