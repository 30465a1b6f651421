use Rattle.std.proofs.Common.{take}
use Rattle.std.specs.List.{Contains}
use Rattle.elmore.specs.Pairs.{IsUndominated}
use Rattle.cand_pairs.proofs.lists.sweep.Given as goal

abbrev pub invariant-sweep : goal.invariant-sweep
invariant-sweep l = IsUndominated (Contains (take l.pair-index l.sorted)) l.kept.items
