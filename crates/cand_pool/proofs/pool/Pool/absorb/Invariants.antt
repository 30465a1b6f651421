use Rattle.std.proofs.Common.{◌+◌, ◌*◌, ◌≤◌, length}
use Rattle.cand_pool.specs.Pools.{items}
use Rattle.cand_pool.specs.Sequences.{union}
use Rattle.cand_pool.specs.Unions.{IsUniting}
use Rattle.cand_pool.proofs.pool.Pool.absorb.Given as goal

abbrev pub invariant-turns : goal.invariant-turns
invariant-turns g l = record {
  uniting : IsUniting l.initial.self l.fn.list.ends.first l.fn.other.ends.first (union (items l.initial.self l.fn.list.ends.first) (items l.initial.self l.fn.other.ends.first)) l.self l.at;
  steps : l.steps + 2 * (length (items l.self l.at.sieve.rest.first) + length (items l.self l.at.other.first))
      ≤ l.initial.steps + 2 * (length (items l.initial.self l.fn.list.ends.first) + length (items l.initial.self l.fn.other.ends.first));
}

abbrev pub decreases-turns : goal.decreases-turns
decreases-turns g l = length (items l.self l.at.sieve.rest.first) + length (items l.self l.at.other.first)
