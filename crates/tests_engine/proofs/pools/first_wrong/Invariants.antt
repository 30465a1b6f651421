use Rattle.std.proofs.Common.{◌≤◌}
use Rattle.cand_pool.specs.Pools.{spare}
use Rattle.tests_engine.proofs.pools.first_wrong.Given as goal

abbrev pub invariant-cases : goal.invariant-cases
invariant-cases g l = 24 ≤ spare l.pool
