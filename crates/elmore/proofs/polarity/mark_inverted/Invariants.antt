use Rattle.std.proofs.Common.{false}
use Rattle.elmore.specs.Delay.{is_odd}
use Rattle.elmore.specs.Placed.{placed_inverters}
use Rattle.elmore.proofs.FilledLemmas.{AreFilled}
use Rattle.elmore.proofs.polarity.mark_inverted.Given as goal

abbrev pub invariant-down : goal.invariant-down
invariant-down l = AreFilled (λ k. is_odd (placed_inverters l.nodes l.reps l.cells 0 k)) false l.v l.inverted
