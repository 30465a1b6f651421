use Rattle.std.proofs.Common.{◌-◌, length}
use Rattle.sta_graph.specs.Peeling.{IsExpanding}
use Rattle.sta_graph.proofs.peel.expand.Given as goal

abbrev pub invariant-leads : goal.invariant-leads
invariant-leads l = IsExpanding l.g l.peel.order.items l.peel.ready.items l.peel.counts.items l.p l.net l.i

abbrev pub decreases-leads : goal.decreases-leads
decreases-leads l = length l.g.leads - l.i
