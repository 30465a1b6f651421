use Rattle.std.proofs.Common.{◌≡◌, ◌++◌, length, map}
use Rattle.vg_split.specs.Splits.{ends_in, net_of}
use Rattle.vg_split.specs.Steps.{AreNumbered, inner_row, inner_to}
use Rattle.vg_split.proofs.stage.push_inners.Given as goal

abbrev pub invariant-node : goal.invariant-node
invariant-node l = record {
  many : length l.scratch.places.items ≡ length l.x.problem.tree.nodes;
  name_is : l.scratch.name.items ≡ net_of l.x l.stage;
  nodes_are : l.nodes ≡ l.fn.nodes ++ map (inner_row l.chars l.x (net_of l.x l.stage)) (inner_to l.x l.stage l.node-index);
  numbered : AreNumbered l.scratch.places.items (ends_in l.x l.stage ++ inner_to l.x l.stage l.node-index);
}
