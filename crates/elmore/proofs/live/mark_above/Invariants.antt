use Rattle.std.proofs.Common.{length}
use Rattle.elmore.proofs.CutLemmas.{cut}
use Rattle.elmore.specs.Trees.{parent_of}
use Rattle.elmore.specs.Problems.{is_sink}
use Rattle.elmore.proofs.LiveLemmas.{AreMarks}
use Rattle.elmore.proofs.live.mark_above.Given as goal

abbrev pub invariant-up : goal.invariant-up
invariant-up l = AreMarks (cut l.v (parent_of l.nodes)) (is_sink l.fn.sinks) (length l.nodes) l.live
