use Rattle.sta_graph.specs.Peeling.{AreCounts}
use Rattle.sta_graph.proofs.peel.in_counts.Given as goal

abbrev pub invariant-leads : goal.invariant-leads
invariant-leads l = AreCounts l.g l.i l.counts.items
