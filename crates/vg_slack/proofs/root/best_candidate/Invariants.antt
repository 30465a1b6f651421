use Rattle.cand_pool.specs.Pools.{items_of}
use Rattle.vg_convex.proofs.Walks.{left_from}
use Rattle.vg_slack.proofs.RootLemmas.{IsWalk}
use Rattle.vg_slack.proofs.root.best_candidate.Given as goal

abbrev pub invariant-walk : goal.invariant-walk
invariant-walk g l = IsWalk l.p l.pool (items_of l.pool l.list) l.next l.best l.fn.steps l.steps

abbrev pub decreases-walk : goal.decreases-walk
decreases-walk g l = left_from l.pool l.next
