use Rattle.std.proofs.Common.{◌≡◌, ◌+◌, ◌*◌, ◌≤◌, length}
use Rattle.sol_arena.specs.Arenas.{slots_of}
use Rattle.cand_pool.specs.Candidates.{Candidates}
use Rattle.cand_pool.specs.Pools.{spare, items_of, KeepsOthers}
use Rattle.vg_merge.specs.Branches.{AreAt, names}
use Rattle.vg_merge.proofs.MergingLemmas.{IsMerging}
use Rattle.vg_merge.proofs.branches.join_firsts.Given as goal

-- zs are made, and xs and ys are left
abbrev pub invariant-turns : goal.invariant-turns
invariant-turns g l = record {
  zs : Candidates;
  xs : Candidates;
  ys : Candidates;
  at : AreAt l.pool l.at zs xs ys;
  merging : IsMerging (slots_of l.initial.arena) (slots_of l.arena) (items_of l.initial.pool l.initial.at.a)
      (items_of l.initial.pool l.initial.at.b) zs xs ys;
  spare : spare l.pool + (length zs + (length xs + length ys))
      ≡ spare l.initial.pool + (length (items_of l.initial.pool l.initial.at.a) + length (items_of l.initial.pool l.initial.at.b));
  others : KeepsOthers l.initial.pool (names l.initial.at) l.pool (names l.at);
  steps : l.steps + 4 * (length xs + length ys)
      ≤ l.initial.steps + 4 * (length (items_of l.initial.pool l.initial.at.a) + length (items_of l.initial.pool l.initial.at.b));
}

abbrev pub decreases-turns : goal.decreases-turns
decreases-turns g l = length (items_of l.pool l.at.a) + length (items_of l.pool l.at.b)
