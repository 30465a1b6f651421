use Rattle.std.proofs.Common.{◌+◌, length, arith}
use Rattle.sta_graph.proofs.CycleLaws.{order_count}
use Rattle.sta_graph.proofs.PassLaws.{forward_step, from_arrived, some_is, within_more}
use Rattle.sta_graph.proofs.passes.forward.Goals as goal

pub leads-preserved : goal.leads-preserved
leads-preserved c =
    forward_step c.args.g.now c.args.order.now c.leads.k c.leads.times c.carry_on.new.times c.requires.graph c.requires.small c.requires.order
    c.leads-test.true c.leads.invariant c.carry_on.ensures

pub carry_on-requires-clause-from : goal.carry_on-requires-clause-from
carry_on-requires-clause-from c =
    let (a, at) = from_arrived c.args.g.now c.args.order.now c.leads.k c.leads.times c.requires.graph c.requires.order c.leads-test.true c.leads.invariant in
    some_is _ a at

pub carry_on-requires-clause-bounded : goal.carry_on-requires-clause-bounded
carry_on-requires-clause-bounded c = λ v a at.
    within_more (c.leads.k + 1) (length c.args.g.now.leads + 1) a
    (omega (arith, order_count c.args.g.now c.args.order.now c.requires.order.in_order))
    (c.leads.invariant.bounded v a at)
