use Rattle.elmore.specs.Trees.{capacitance}
use Rattle.elmore.proofs.FilledLemmas.{AreFilled}
use Rattle.vg_width.proofs.loads.fill_capacitances.Given as goal

abbrev pub invariant-fill : goal.invariant-fill
invariant-fill l = AreFilled (capacitance l.nodes) 0 l.v l.loads
