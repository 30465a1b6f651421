use Rattle.std.proofs.Common.{sym, ap, arith, subst}
use Rattle.sol_arena.specs.Slots.{is_solution}
use Rattle.sol_arena.specs.Meanings.{AreBelow}
use Rattle.sol_arena.proofs.MeaningLemmas.{empty_below, cell_below, join_below}
use Rattle.tests_engine.proofs.arena.join_of_two.Goals as goal

pub has_cells-requires-clause-below : goal.has_cells-requires-clause-below
has_cells-requires-clause-below g c =
    let left = c.in_ok-left.ensures.new in
    let right = c.in_ok-right.ensures.new in
    let joined = c.in_ok-joined.ensures.new (λ both. left.apart both.0) in
    let e = c.empty-empty.result.0 in
    let empty_before = empty_below 3 _ c.empty-empty.ensures.bare in
    let empty_after = subst (AreBelow 3) (sym (left.cells e (λ some. absurd (some c.empty-empty.ensures.none)))) empty_before in
    let left_below = cell_below _ _ 3 _ 1 0 e left (omega arith) empty_before in
    let left_after = subst (AreBelow 3) (sym (right.cells c.in_ok-left.left.0 (λ _. ap is_solution left.made))) left_below in
    join_below _ _ 3 _ _ _ joined left_after (cell_below _ _ 3 _ 2 1 e right (omega arith) empty_after)
