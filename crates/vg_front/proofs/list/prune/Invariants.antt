use Rattle.vg_front.specs.Seen.{stairs_of}
use Rattle.vg_front.proofs.ListLemmas.{IsPruningIn}
use Rattle.vg_front.proofs.list.prune.Given as goal

abbrev pub invariant-candidates : goal.invariant-candidates
invariant-candidates l = IsPruningIn l.fn.arena l.fn.list.items l.at l.kept l.stairs.cost (stairs_of l.stairs) l.list.items l.arena
