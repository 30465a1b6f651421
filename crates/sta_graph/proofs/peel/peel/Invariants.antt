use Rattle.std.proofs.Common.{◌-◌}
use Rattle.sta_graph.specs.Paths.{net_count}
use Rattle.sta_graph.specs.Peeling.{IsPeeling}
use Rattle.sta_graph.proofs.peel.peel.Given as goal

abbrev pub invariant-nets : goal.invariant-nets
invariant-nets l = IsPeeling l.g l.peel.order.items l.peel.ready.items l.peel.counts.items l.p 0

abbrev pub decreases-nets : goal.decreases-nets
decreases-nets l = net_count l.g - l.p
