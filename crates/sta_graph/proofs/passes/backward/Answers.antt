use Rattle.std.proofs.Common.{◌+◌, ◌-◌, ℕ, length, arith, subst}
use Rattle.sta_graph.specs.Passes.{IsBackward}
use Rattle.sta_graph.proofs.CycleLaws.{order_count}
use Rattle.sta_graph.proofs.PassLaws.{backward_step, to_required, some_is, within_more}
use Rattle.sta_graph.proofs.passes.backward.Goals as goal

pub leads-preserved : goal.leads-preserved
leads-preserved c =
    backward_step c.args.g.now c.args.order.now (c.leads.k - 1) c.leads.k (length c.args.order.now - c.leads.k + 2) (length c.args.order.now - (c.leads.k - 1) + 2)
    c.leads.times c.carry_back.new.times c.requires.graph c.requires.small c.requires.order
    (omega arith) (omega arith) (omega arith) c.leads.invariant c.carry_back.ensures

pub carry_back-requires-clause-to : goal.carry_back-requires-clause-to
carry_back-requires-clause-to c =
    let (r, at) = to_required c.args.g.now c.args.order.now (c.leads.k - 1) _ c.leads.times c.requires.graph c.requires.order (omega arith)
    (subst (λ (n : ℕ). IsBackward c.args.g.now c.args.order.now n (length c.args.order.now - c.leads.k + 2) c.leads.times) (omega arith) c.leads.invariant) in
    some_is _ r at

pub carry_back-requires-clause-bounded : goal.carry_back-requires-clause-bounded
carry_back-requires-clause-bounded c = λ v r at.
    within_more (length c.args.order.now - c.leads.k + 2) (length c.args.g.now.leads + 2) r
    (omega (arith, order_count c.args.g.now c.args.order.now c.requires.order.in_order))
    (c.leads.invariant.bounded v r at)
