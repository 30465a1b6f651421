use Rattle.std.proofs.Common.{length}
use Rattle.elmore.specs.Cells.{cell_at}
use Rattle.elmore.proofs.CutLemmas.{cut}
use Rattle.elmore.specs.Trees.{parent_of, capacitance}
use Rattle.elmore.proofs.LoadLemmas.{AreLoads}
use Rattle.elmore.proofs.loads.sum_loads.Given as goal

abbrev pub invariant-up : goal.invariant-up
invariant-up l = AreLoads (cut l.v (parent_of l.nodes)) (capacitance l.nodes) (cell_at l.reps l.cells) (length l.nodes) l.sums
