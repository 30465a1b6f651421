use Rattle.std.proofs.Common.{pos}
use Rattle.elmore.specs.Trees.{capacitance}
use Rattle.elmore.proofs.FilledLemmas.{AreFilled}
use Rattle.elmore.proofs.sums.fill_capacitances.Given as goal

abbrev pub invariant-fill : goal.invariant-fill
invariant-fill l = AreFilled (λ k. pos (capacitance l.nodes k)) (pos 0) l.v l.sums
