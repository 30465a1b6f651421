use Rattle.std.proofs.Common.{◌≡◌, ◌+◌, length}
use Rattle.cand_pool.specs.Pools.{items}
use Rattle.cand_pool.specs.Sieves.{IsWiring}
use Rattle.cand_pool.proofs.pool.Pool.wire.Given as goal

abbrev pub invariant-turns : goal.invariant-turns
invariant-turns g l = record {
  wiring : IsWiring l.r l.c l.initial.self l.fn.list.ends (items l.initial.self l.fn.list.ends.first) l.self l.at;
  steps : l.steps + length (items l.self l.at.rest.first) ≡ l.initial.steps + length (items l.initial.self l.fn.list.ends.first);
}

abbrev pub decreases-turns : goal.decreases-turns
decreases-turns g l = length (items l.self l.at.rest.first)
