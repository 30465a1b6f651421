use Rattle.std.proofs.Common.{length}
use Rattle.cand_pool.specs.Pools.{bag_of}
use Rattle.tests_engine.proofs.RowLaws.{IsEmptying}
use Rattle.tests_engine.proofs.pool_lists.take_all.Given as goal

abbrev pub invariant-tags : goal.invariant-tags
invariant-tags l = IsEmptying l.fn.pool l.pool l.initial.bag l.bag

abbrev pub decreases-tags : goal.decreases-tags
decreases-tags l = length (bag_of l.pool l.bag)
