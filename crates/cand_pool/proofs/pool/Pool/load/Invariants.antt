use Rattle.std.proofs.Common.{◌≡◌, ◌+◌, length}
use Rattle.cand_pool.specs.Pools.{slots_of}
use Rattle.cand_pool.specs.Moves.{IsLoading}
use Rattle.cand_pool.proofs.pool.Pool.load.Given as goal

abbrev pub invariant-slots : goal.invariant-slots
invariant-slots g l = record {
  loading : IsLoading l.c l.initial.self (slots_of l.initial.self l.fn.list.ends.first) l.self l.slot;
  steps : l.steps + length (slots_of l.self l.slot) ≡ l.initial.steps + length (slots_of l.initial.self l.fn.list.ends.first);
}

abbrev pub decreases-slots : goal.decreases-slots
decreases-slots g l = length (slots_of l.self l.slot)
