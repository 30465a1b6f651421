use Rattle.std.proofs.Common.{ℕ, ◌-◌, arith, subst, sym}
use Rattle.sta_graph.specs.Peeling.{AreLinksFrom}
use Rattle.sta_graph.proofs.PeelLaws.{links_none, link_one}
use Rattle.sta_graph.proofs.peel.fill.Goals as goal

pub leads-preserved : goal.leads-preserved
leads-preserved c =
    link_one c.args.g.now c.leads.first c.leads.next (c.leads.i - 1) c.from_net-from.result c.requires.graph (omega arith) c.from_net-from.ensures
    (subst (λ (n : ℕ). AreLinksFrom c.args.g.now n c.leads.first c.leads.next) (omega arith) c.leads.invariant)

pub leads-init : goal.leads-init
leads-init c =
    subst (λ (n : ℕ). AreLinksFrom c.args.g.now n c.args.first.now c.args.next.now) (sym c.len-i.ensures)
    (links_none c.args.g.now c.args.first.now c.args.next.now c.requires.nets c.requires.leads c.requires.none)
