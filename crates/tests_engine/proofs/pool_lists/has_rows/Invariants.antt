use Rattle.cand_pool.proofs.CallLaws.{left_from, IsPlaced}
use Rattle.tests_engine.proofs.pool_lists.has_rows.Given as goal

abbrev pub invariant-places : goal.invariant-places
invariant-places g l = IsPlaced l.pool l.place

abbrev pub decreases-places : goal.decreases-places
decreases-places g l = left_from l.pool l.place
