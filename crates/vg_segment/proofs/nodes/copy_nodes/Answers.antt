use Rattle.std.proofs.Common.{[], arith}
use Rattle.spef_nodes.specs.Nodes.{ParNode}
use Rattle.vg_segment.specs.Segments.{new_node}
use Rattle.vg_segment.proofs.NodeLemmas.{none_yet, next_node, node_is}
use Rattle.vg_segment.proofs.nodes.copy_nodes.Goals as goal

pub node-init : goal.node-init
node-init c =
    let h = none_yet _ c.new.ensures c.new-2.ensures c.new-3.ensures in
    record { ready = h.ready; nodes = h.nodes; count = h.count }

pub node-preserved : goal.node-preserved
node-preserved c =
    let nodes = c.args.net.now.nodes in
    let other : ParNode = new_node [] 0 in
    let h = c.in_ok-push.ensures in
    record {
      ready = h.ready;
      nodes = next_node nodes _ _ c.node.at other _ (omega arith) c.node.invariant.nodes h.last (node_is _ _ _ _ _ (c.owner.ensures other) (c.leaf.ensures other) (c.is_inner.ensures other) (c.note.ensures other));
      count = omega (arith, h.count, c.node.invariant.count);
    }
