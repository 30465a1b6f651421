use Rattle.cand_pool.specs.Pools.{items_of}
use Rattle.vg_convex.proofs.Walks.{left_from}
use Rattle.cand_turns.proofs.ReadLemmas.{IsRead}
use Rattle.cand_turns.proofs.carry.read.Given as goal

abbrev pub invariant-walk : goal.invariant-walk
invariant-walk g l = IsRead l.pool (items_of l.pool l.from) l.row l.added l.next l.chosen.items

abbrev pub decreases-walk : goal.decreases-walk
decreases-walk g l = left_from l.pool l.next
