use Rattle.sta_graph.specs.Passes.{IsForward}
use Rattle.sta_graph.proofs.passes.forward.Given as goal

abbrev pub invariant-leads : goal.invariant-leads
invariant-leads l = IsForward l.g l.order l.k l.times
