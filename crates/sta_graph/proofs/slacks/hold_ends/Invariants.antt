use Rattle.sta_graph.specs.Begins.{AreEnds}
use Rattle.sta_graph.proofs.slacks.hold_ends.Given as goal

abbrev pub invariant-sinks : goal.invariant-sinks
invariant-sinks l = AreEnds l.g l.leading l.j l.times
