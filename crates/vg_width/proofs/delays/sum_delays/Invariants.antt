use Rattle.elmore.proofs.FilledLemmas.{AreFilled}
use Rattle.wire_widths.specs.Widths.{wide_delay_between}
use Rattle.vg_width.proofs.delays.sum_delays.Given as goal

abbrev pub invariant-down : goal.invariant-down
invariant-down l = AreFilled (wide_delay_between l.p l.widths l.cells l.chosen 0) 0 l.v l.delays
