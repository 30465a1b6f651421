use Rattle.std.proofs.Common.{◌≡◌}
use Rattle.cand_pool.specs.Pools.{spare}
use Rattle.bench_lists.proofs.run.repeat.Given as goal

abbrev pub invariant-turns : goal.invariant-turns
invariant-turns g l = spare l.pool ≡ spare l.initial.pool
