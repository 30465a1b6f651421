use Rattle.sta_graph.specs.Begins.{IsWorstSo}
use Rattle.sta_graph.proofs.slacks.worst_end.Given as goal

abbrev pub invariant-sinks : goal.invariant-sinks
invariant-sinks l = IsWorstSo l.g l.leading l.arrivals l.j l.best
