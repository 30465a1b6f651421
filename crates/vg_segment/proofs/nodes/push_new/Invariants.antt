use Rattle.std.proofs.Common.{◌≡◌, ◌+◌, ◌++◌, length, map, take}
use Rattle.vg_segment.specs.Segments.{new_node}
use Rattle.vg_segment.specs.NodeLists.{listed, IsReady}
use Rattle.vg_segment.proofs.nodes.push_new.Given as goal

abbrev pub invariant-leaf : goal.invariant-leaf
invariant-leaf l = record {
  ready : IsReady l.list;
  nodes : listed l.list ≡ listed l.initial.list ++ map (new_node l.net) (take l.leaf-index l.leaves);
  count : length l.list.owners ≡ length l.initial.list.owners + l.leaf-index;
}
