use Rattle.std.proofs.Common.{◌≡◌, arith, get_or}
use Rattle.sta_graph.proofs.LeftLaws.{read}
use Rattle.sta_graph.proofs.PeelLaws.{expand_begin, expand_step, still_counted}
use Rattle.sta_graph.proofs.peel.expand.Goals as goal

pub leads-preserved : goal.leads-preserved
leads-preserved c =
    expand_step c.args.g.now c.leads.peel.order.items c.leads.peel.ready.items c.leads.peel.counts.items c.args.links.now.first.items c.args.links.now.next.items
    c.take_lead.new.peel.order.items c.take_lead.new.peel.ready.items c.take_lead.new.peel.counts.items c.args.p c.index-net.result.now c.leads.i c.index-i-in-leads.result.now
    c.requires.graph c.requires.links (omega arith) c.leads.invariant
    c.in_ok-take_lead.ensures.order c.in_ok-take_lead.ensures.counts c.in_ok-take_lead.ensures.ready
    (read c.args.links.now.next.items c.leads.i c.index-i-in-leads.result.now (omega (arith, c.requires.links.leads)) c.index-i-in-leads.ensures)

pub leads-init : goal.leads-init
leads-init c =
    let net_is : c.index-net.result.now ≡ get_or c.args.peel.now.ready.items c.args.p 0 =
    read c.args.peel.now.ready.items c.args.p c.index-net.result.now c.requires.place c.index-net.ensures in
    expand_begin c.args.g.now c.args.peel.now.order.items c.args.peel.now.ready.items c.args.peel.now.counts.items c.args.links.now.first.items c.args.links.now.next.items
    c.args.p c.index-net.result.now c.index-i.result.now c.requires.links c.requires.place
    net_is (read c.args.links.now.first.items c.index-net.result.now c.index-i.result.now
    (omega (arith, c.requires.links.nets, net_is, c.requires.before.nets c.args.p c.requires.place)) c.index-i.ensures) c.requires.before

pub take_lead-requires-clause-counted : goal.take_lead-requires-clause-counted
take_lead-requires-clause-counted c =
    still_counted c.args.g.now c.leads.peel.order.items c.leads.peel.ready.items c.leads.peel.counts.items c.args.p c.leads.i
    c.requires.graph c.leads.invariant.place (omega arith) (c.leads.invariant.from (omega arith)) c.leads.invariant.so_far
