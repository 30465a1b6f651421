use Rattle.std.proofs.Common.{sym, subst}
use Rattle.sol_arena.specs.Meanings.{AreBelow}
use Rattle.tests_search.proofs.best_lent.first_wrong.Goals as goal

pub is_kept-requires-clause-below : goal.is_kept-requires-clause-below
is_kept-requires-clause-below g c =
    subst (AreBelow 3) (sym (c.agrees.ensures.cells c.in_ok-sol.sol.0 c.cases.invariant.solution)) c.cases.invariant.below
