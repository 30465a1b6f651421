use Rattle.std.proofs.Common.{◌-◌, arith, length}
use Rattle.rc_tree.proofs.LinkLemmas.{links_more}
use Rattle.rc_tree.proofs.links.fill.Goals as goal

pub edges-preserved : goal.edges-preserved
edges-preserved c =
    links_more c.args.edges.now c.edges.first c.edges.next (length c.args.first.now) (c.edges.j - 1) c.edges.j (omega arith) (omega arith) (omega arith) (omega arith)
    (c.requires.from_nodes (c.edges.j - 1) (omega arith)) (c.requires.to_nodes (c.edges.j - 1) (omega arith)) c.edges.invariant
