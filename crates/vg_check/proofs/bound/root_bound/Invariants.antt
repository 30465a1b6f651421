use Rattle.std.proofs.Common.{take}
use Rattle.vg_check.specs.Verdicts.{IsBoundOf}
use Rattle.vg_check.proofs.bound.root_bound.Given as goal

abbrev pub invariant-pairs : goal.invariant-pairs
invariant-pairs l = IsBoundOf l.p (take l.pair-index l.pairs) l.found
