use Rattle.sta_graph.specs.Begins.{AreDifferences}
use Rattle.sta_graph.proofs.slacks.net_slacks.Given as goal

abbrev pub invariant-nets : goal.invariant-nets
invariant-nets l = AreDifferences l.arrivals l.required l.v l.slacks.items
