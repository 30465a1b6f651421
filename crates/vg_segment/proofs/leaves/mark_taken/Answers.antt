use Rattle.std.proofs.Common.{[], arith}
use Rattle.spef_nodes.specs.Nodes.{ParNode}
use Rattle.vg_segment.specs.Segments.{new_node}
use Rattle.vg_segment.proofs.MarkLemmas.{marked_more}
use Rattle.vg_segment.proofs.leaves.mark_taken.Goals as goal

pub node-preserved : goal.node-preserved
node-preserved c =
    let net = c.args.net.now in
    let other : ParNode = new_node [] 0 in
    let h = c.taken_by-number.ensures in
    marked_more net.name net.nodes c.node.at c.args.last c.taken_by-number.result c.node.marks.items other (omega arith) h.within (h.name other) (λ k. h.found k other) c.node.invariant
