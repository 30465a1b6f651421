use Rattle.sta_graph.specs.Begins.{AreStarts}
use Rattle.sta_graph.proofs.slacks.first_arrivals.Given as goal

abbrev pub invariant-nets : goal.invariant-nets
invariant-nets l = AreStarts l.g l.led l.v l.times.items
