use Rattle.std.proofs.Common.{take}
use Rattle.cand_pairs.specs.Merging.{IsGreatestOf}
use Rattle.cand_pairs.proofs.choice.greatest.Given as goal

abbrev pub invariant-pairs : goal.invariant-pairs
invariant-pairs l = IsGreatestOf l.rep (take l.pair-index l.pairs) l.found
