use Rattle.std.proofs.Common.{◌+◌, ◌*◌, ◌≤◌, ◌∷◌, [], Bool, length}
use Rattle.sol_arena.specs.Arenas.{made_of}
use Rattle.cand_pool.specs.Pools.{items_of}
use Rattle.cand_uses.specs.Pairs.{pairs_of}
use Rattle.cand_turns.specs.Swaps.{IsTurn, search}
use Rattle.cand_turns.specs.Widened.{IsClosedClass, IsUnderRows}
use Rattle.cand_turns.proofs.carry.wider.Given as goal

abbrev pub invariant-rows : goal.invariant-rows
invariant-rows g l = record {
  turn : IsTurn (search l.fn.pool l.fn.arena) [] (search l.pool l.arena) (l.all ∷ []);
  rows : (odd : Bool) → IsClosedClass l.fn.p l.fn.widths l.fn.node odd (made_of l.fn.arena) (items_of l.fn.pool l.fn.from)
      → IsUnderRows l.fn.p l.fn.widths l.fn.node l.fn.c odd (pairs_of (items_of l.fn.pool l.fn.from)) 1 l.row (made_of l.arena) (items_of l.pool l.all);
  few : length (items_of l.pool l.all) + length (items_of l.fn.pool l.fn.from) ≤ l.row * length (items_of l.fn.pool l.fn.from);
}
