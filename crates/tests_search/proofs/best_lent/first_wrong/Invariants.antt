use Rattle.sol_arena.specs.Slots.{made_in, IsSolution}
use Rattle.sol_arena.specs.Meanings.{cells_of, AreBelow}
use Rattle.tests_search.proofs.best_lent.first_wrong.Given as goal

abbrev pub invariant-cases : goal.invariant-cases
invariant-cases g l = record {
  solution : IsSolution (made_in l.arena.slots.items) l.sol.0;
  below : AreBelow 3 (cells_of (made_in l.arena.slots.items) l.sol.0);
}
