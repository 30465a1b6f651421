use Rattle.std.proofs.Common.{◌≡◌, ℤ, ◌<◌, pos, arith, rules, get_or, length, ap}
use Rattle.std.proofs.lemmas.Int.{to_z-of_z}
use mir.Syntax.{w128}
use mir.Val.{SFits}
use Rattle.spef_wire.proofs.WireLemmas.{read_more}
use Rattle.spef_wire.proofs.wire.sink_delays.Goals as goal

pub node-preserved : goal.node-preserved
node-preserved c =
    let found = c.args.found.now in
    let order = c.as_slice-order.result.now in
    let tree = c.requires.tree in
    let size : length order ≡ length found.order = ap length c.as_slice-order.ensures in
    let within : c.node.i < length found.tree.nodes = omega (arith, tree.a_tree.count, tree.a_tree.lists.count) in
    let delay : ℤ = get_or c.args.delays.now c.node.i (pos 0) in
    let fits : SFits w128 delay = search rules in
    let pushed = rw (to_z-of_z w128 delay fits) at c.in_ok-push_sink.ensures in
    read_more found.net found.tree.nodes found.order order c.args.marks.now c.node.i delay c.node.rows c.push_sink.new.rows
    c.as_slice-order.ensures tree c.node-test.true c.requires.marks (c.requires.delays c.node.i within) c.node.invariant pushed
