use Rattle.std.proofs.Common.{length}
use Rattle.sta_graph.specs.Paths.{lead_at}
use Rattle.sta_graph.specs.Begins.{AreMarked}
use Rattle.sta_graph.proofs.slacks.leading_sinks.Given as goal

abbrev pub invariant-leads : goal.invariant-leads
invariant-leads l = AreMarked (length l.g.sinks) l.i (λ i. (lead_at l.g i).sink) l.marks.items
