use Rattle.sta_graph.specs.Paths.{net_count, to_of}
use Rattle.sta_graph.specs.Begins.{AreMarked}
use Rattle.sta_graph.proofs.slacks.led_nets.Given as goal

abbrev pub invariant-leads : goal.invariant-leads
invariant-leads l = AreMarked (net_count l.g) l.i (to_of l.g) l.marks.items
