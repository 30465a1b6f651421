use Rattle.std.proofs.Common.{◌+◌, ◌≤◌, length}
use Rattle.cand_pool.specs.Pools.{items}
use Rattle.cand_pool.specs.Laws.{RisesInTime}
use Rattle.cand_pool.specs.Sieves.{IsSiftedTo}
use Rattle.cand_pool.proofs.pool.Pool.drop_dominated.Given as goal

abbrev pub invariant-drops : goal.invariant-drops
invariant-drops g l = record {
  sifted : IsSiftedTo l.initial.self l.self l.initial.at l.at (items l.self l.at.rest.first);
  rises : RisesInTime (items l.self l.at.rest.first);
  steps : l.steps + length (items l.self l.at.rest.first) ≤ l.initial.steps + length (items l.initial.self l.initial.at.rest.first);
}

abbrev pub decreases-drops : goal.decreases-drops
decreases-drops g l = length (items l.self l.at.rest.first)
