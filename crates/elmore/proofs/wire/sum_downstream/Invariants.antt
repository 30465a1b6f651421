use Rattle.std.proofs.Common.{length}
use Rattle.elmore.proofs.CutLemmas.{cut}
use Rattle.elmore.specs.Trees.{parent_of, capacitance}
use Rattle.elmore.proofs.LoadLemmas.{AreLoads}
use Rattle.elmore.proofs.WireLemmas.{no_cell}
use Rattle.elmore.proofs.wire.sum_downstream.Given as goal

abbrev pub invariant-up : goal.invariant-up
invariant-up l = AreLoads (cut l.v (parent_of l.nodes)) (capacitance l.nodes) no_cell (length l.nodes) l.sums
