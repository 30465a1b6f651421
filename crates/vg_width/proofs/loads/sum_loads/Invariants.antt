use Rattle.vg_width.proofs.LoadLemmas.{AreLoadsFrom}
use Rattle.vg_width.proofs.loads.sum_loads.Given as goal

abbrev pub invariant-up : goal.invariant-up
invariant-up l = AreLoadsFrom l.p l.widths l.cells l.chosen l.v l.loads
