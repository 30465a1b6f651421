use Rattle.std.proofs.Common.{take, map}
use Rattle.std.specs.List.{Contains}
use Rattle.elmore.specs.Pairs.{IsUndominated}
use Rattle.cand_pairs.specs.Candidates.{wired}
use Rattle.cand_pairs.proofs.lists.through_wire.Given as goal

abbrev pub invariant-wire : goal.invariant-wire
invariant-wire l = IsUndominated (Contains (take l.pair-index (map (wired l.r) l.pairs))) l.kept.items
