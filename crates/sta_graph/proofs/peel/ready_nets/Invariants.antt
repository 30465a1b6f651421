use Rattle.sta_graph.specs.Peeling.{AreFree}
use Rattle.sta_graph.proofs.peel.ready_nets.Given as goal

abbrev pub invariant-nets : goal.invariant-nets
invariant-nets l = AreFree l.counts l.v l.ready.items
