use Rattle.std.proofs.Common.{◌≡◌, length, map}
use Rattle.vg_split.specs.Steps.{AreConns, AreNumbered, ends_to, row_in}
use Rattle.vg_split.proofs.stage.push_ends.Given as goal

abbrev pub invariant-node : goal.invariant-node
invariant-node l = record {
  many : length l.scratch.places.items ≡ length l.x.problem.tree.nodes;
  nodes_are : l.nodes ≡ map (row_in l.chars l.x l.stage) (ends_to l.x l.stage l.node-index);
  conns_are : AreConns l.x l.stage (ends_to l.x l.stage l.node-index) l.conns.items;
  numbered : AreNumbered l.scratch.places.items (ends_to l.x l.stage l.node-index);
}
