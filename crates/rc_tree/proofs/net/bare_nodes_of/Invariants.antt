use Rattle.std.proofs.Common.{◌≡◌, map, take}
use Rattle.rc_tree.specs.Search.{bare_node_of}
use Rattle.rc_tree.proofs.net.bare_nodes_of.Given as goal

abbrev pub invariant-places : goal.invariant-places
invariant-places l = l.nodes.items ≡ map (bare_node_of l.edges) (take l.place-index l.places)
