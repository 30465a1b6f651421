use Rattle.std.proofs.Common.{◌≡◌, length, take}
use Rattle.vg_segment.specs.NodeLists.{listed, IsReady}
use Rattle.vg_segment.proofs.nodes.copy_nodes.Given as goal

abbrev pub invariant-node : goal.invariant-node
invariant-node l = record {
  ready : IsReady l.list;
  nodes : listed l.list ≡ take l.at l.nodes;
  count : length l.list.owners ≡ l.at;
}
