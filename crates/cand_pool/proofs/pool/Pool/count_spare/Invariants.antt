use Rattle.std.proofs.Common.{◌≡◌, ◌≤◌, ◌+◌, length}
use Rattle.cand_pool.specs.Pools.{items, spare, IsFrom}
use Rattle.cand_pool.proofs.pool.Pool.count_spare.Given as goal

abbrev pub invariant-free : goal.invariant-free
invariant-free l = record {
  from : IsFrom l.self l.slot (items l.self l.slot);
  total : l.count + length (items l.self l.slot) ≡ spare l.self;
  most : l.count ≤ l.most;
}

abbrev pub decreases-free : goal.decreases-free
decreases-free l = length (items l.self l.slot)
