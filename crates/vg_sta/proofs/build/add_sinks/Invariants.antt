use Rattle.vg_sta.specs.Steps.{AreAdded}
use Rattle.vg_sta.proofs.build.add_sinks.Given as goal

abbrev pub invariant-sink : goal.invariant-sink
invariant-sink l = AreAdded l.outputs l.section l.net l.at l.initial.lists l.lists
