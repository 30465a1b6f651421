use Rattle.cand_pairs.proofs.RaiseLemmas.{AreRaised}
use Rattle.cand_pairs.proofs.lists.raise.Given as goal

abbrev pub invariant-raise : goal.invariant-raise
invariant-raise l = AreRaised l.more l.fn.pairs l.i l.pairs
