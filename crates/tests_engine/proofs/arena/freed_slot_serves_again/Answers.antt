use Rattle.std.proofs.Common.{sym, arith, refl, subst}
use Rattle.sol_arena.specs.Meanings.{AreBelow}
use Rattle.sol_arena.proofs.OneLemmas.{one_same}
use Rattle.sol_arena.proofs.MeaningLemmas.{empty_below, cell_below}
use Rattle.sol_arena.proofs.ReachLemmas.{held_live}
use Rattle.tests_engine.proofs.arena.freed_slot_serves_again.Goals as goal

pub has_cells-requires-clause-below : goal.has_cells-requires-clause-below
has_cells-requires-clause-below g c =
    let first = c.in_ok-first.ensures.new in
    let part = c.in_ok-part.ensures.new in
    let p = c.in_ok-part.part.0 in
    let after = c.release.new.self in
    let p_live = held_live after p part.apart
    (omega (arith, part.held p part.apart, c.release.ensures.held p part.apart, first.held p part.apart, one_same p p refl)) in
    cell_below _ _ 3 _ 2 7 p c.in_ok-whole.ensures.new (omega arith)
    (subst (AreBelow 3) (sym (c.release.ensures.cells p (λ _. p_live)))
    (cell_below _ _ 3 _ 1 6 c.empty-empty.result.0 part (omega arith)
    (subst (AreBelow 3) (sym (first.cells c.empty-empty.result.0 (λ some. absurd (some c.empty-empty.ensures.none))))
    (empty_below 3 _ c.empty-empty.ensures.bare))))
