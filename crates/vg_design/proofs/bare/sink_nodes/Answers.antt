use Rattle.elmore.specs.Problems.{is_sink}
use Rattle.vg_design.proofs.NumberLemmas.{pushed_more}
use Rattle.vg_design.proofs.bare.sink_nodes.Goals as goal

pub node-preserved : goal.node-preserved
node-preserved c = pushed_more (is_sink c.args.sinks.now) c.node.at c.is_some.result c.node.nodes.items c.push_where.new.to.items c.node.invariant c.is_some.ensures c.in_ok-push_where.ensures
