use Rattle.sta_graph.specs.Peeling.{AreLinksFrom}
use Rattle.sta_graph.proofs.peel.fill.Given as goal

abbrev pub invariant-leads : goal.invariant-leads
invariant-leads l = AreLinksFrom l.g l.i l.first l.next
