use Rattle.std.proofs.Common.{◌≡◌, ◌+◌, length}
use Rattle.cand_pool.specs.Pools.{items, IsFrom}
use Rattle.cand_pool.proofs.pool.Pool.len.Given as goal

abbrev pub invariant-links : goal.invariant-links
invariant-links l = record {
  from : IsFrom l.self l.slot (items l.self l.slot);
  total : l.count + length (items l.self l.slot) ≡ length (items l.self l.fn.list.ends.first);
}

abbrev pub decreases-links : goal.decreases-links
decreases-links l = length (items l.self l.slot)
