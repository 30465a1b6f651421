use Rattle.std.proofs.Common.{◌≡◌, map, slice_index}
use Rattle.std.specs.List.{range_with_len}
use Rattle.elmore.specs.Trees.{node_at}
use Rattle.vg_design.specs.Parts.{loaded}
use Rattle.vg_design.proofs.parts.loaded_nodes.Given as goal

abbrev pub invariant-node : goal.invariant-node
invariant-node l = l.nodes.items ≡ map (λ i. loaded l.design l.net.net (node_at l.tree i) (slice_index l.order i)) (range_with_len 0 l.i)
