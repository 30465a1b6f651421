use Rattle.std.proofs.Common.{◌<◌, ◌^◌, length, sym, subst, arith}
use Rattle.elmore.specs.declared.tree.Node.{Node}
use Rattle.vg_design.proofs.PartLemmas.{node_read, loaded_more}
use Rattle.vg_design.proofs.parts.loaded_nodes.Goals as goal

pub node_with_load-requires-clause-small : goal.node_with_load-requires-clause-small
node_with_load-requires-clause-small c =
    let within : c.node.i < length c.args.tree.now = omega (arith, c.node-test.true) in
    subst (λ (n : Node). n.c < 2 ^ 127) (sym (node_read c.args.tree.now c.node.i (record { parent = 0; r = 0; c = 0 }) within)) (c.requires.small c.node.i)

pub node-preserved : goal.node-preserved
node-preserved c =
    let within : c.node.i < length c.args.tree.now = omega (arith, c.node-test.true) in
    loaded_more c.args.design.now c.args.net.now.net c.args.tree.now c.args.order.now c.node.i (record { parent = 0; r = 0; c = 0 }) c.in_ok-node_with_load.field-0 c.node.nodes.items c.push.new.self.items
    within c.node.invariant c.in_ok-node_with_load.ensures c.in_ok-push.ensures.items
