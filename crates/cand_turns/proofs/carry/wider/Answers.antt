use Rattle.std.proofs.Common.{◌≡◌, ◌+◌, ◌∷◌, [], ℕ, length, refl, sym, ap, subst, arith}
use Rattle.sol_arena.specs.Arenas.{made_of}
use Rattle.cand_pool.specs.Candidates.{Candidates}
use Rattle.cand_pool.specs.Pools.{items_of}
use Rattle.cand_pool.proofs.PublicLaws.{held_items}
use Rattle.cand_uses.specs.Pairs.{pairs_of}
use Rattle.cand_turns.specs.Swaps.{search}
use Rattle.cand_turns.specs.Widened.{IsUnderRows}
use Rattle.cand_turns.proofs.SwapLemmas.{turn_then, swap_then, beside, other_items}
use Rattle.cand_turns.proofs.PartLemmas.{err_answers}
use Rattle.cand_turns.proofs.RowLemmas.{closed_beside, no_rows, none_made}
use Rattle.cand_turns.proofs.carry.wider.Goals as goal

pub rows-init : goal.rows-init
rows-init g c = record {
  turn = none_made c.args.arena.now c.args.pool.now c.none-all.new.self c.none-all.result c.none-all.ensures.same c.none-all.ensures.list;
  rows = λ odd class.
      subst (λ (zs : Candidates). IsUnderRows c.args.p.now c.args.widths.now c.args.node c.args.c odd (pairs_of (items_of c.args.pool.now c.args.from.now)) 1 1 (made_of c.args.arena.now) zs)
      (sym (held_items _ _ _ _ c.none-all.ensures.list))
      (no_rows c.args.p.now c.args.widths.now c.args.node c.args.c odd (pairs_of (items_of c.args.pool.now c.args.from.now)) 1 (made_of c.args.arena.now));
  few = omega (arith, ap (λ (l : Candidates). length l) (held_items _ _ _ _ c.none-all.ensures.list));
}

pub with_next-requires-clause-held : goal.with_next-requires-clause-held
with_next-requires-clause-held g c =
    (beside (search c.args.pool.now c.args.arena.now) (search c.rows.pool c.rows.arena) [] (c.rows.all ∷ []) (c.args.from.now ∷ []) c.requires.held c.rows.invariant.turn).held

pub with_next-requires-clause-class : goal.with_next-requires-clause-class
with_next-requires-clause-class g c =
    let (odd, class) = c.requires.closed in
    let same = other_items (search c.args.pool.now c.args.arena.now) (search c.rows.pool c.rows.arena) [] (c.rows.all ∷ []) (c.args.from.now ∷ []) c.requires.held c.rows.invariant.turn
    c.args.from.now (0, omega arith, refl) in (
      odd,
      closed_beside c.args.p.now c.args.widths.now c.args.node odd c.args.arena.now c.rows.arena c.args.pool.now c.rows.pool [] (c.rows.all ∷ []) (c.args.from.now ∷ []) c.requires.held
          c.rows.invariant.turn c.args.from.now (0, omega arith, refl) class,
      subst (λ (xs : Candidates). IsUnderRows c.args.p.now c.args.widths.now c.args.node c.args.c odd (pairs_of xs) 1 c.rows.row (made_of c.rows.arena) (items_of c.rows.pool c.rows.all)) (sym same)
          (c.rows.invariant.rows odd class),
    )

pub returns-in_err-all-clause-turn : goal.returns-in_err-all-clause-turn
returns-in_err-all-clause-turn g c =
    err_answers c.from_residual.result _ _ c.from_residual.ensures.0
    (swap_then (search c.args.pool.now c.args.arena.now) (search c.rows.pool c.rows.arena) (search c.with_next.new.pool c.with_next.new.arena) [] (c.rows.all ∷ []) []
    c.rows.invariant.turn.swap c.in_err-all.ensures.turn)

pub rows-preserved : goal.rows-preserved
rows-preserved g c =
    let same = other_items (search c.args.pool.now c.args.arena.now) (search c.rows.pool c.rows.arena) [] (c.rows.all ∷ []) (c.args.from.now ∷ []) c.requires.held c.rows.invariant.turn
    c.args.from.now (0, omega arith, refl) in
    record {
      turn = turn_then (search c.args.pool.now c.args.arena.now) (search c.rows.pool c.rows.arena) (search c.with_next.new.pool c.with_next.new.arena) [] (c.rows.all ∷ []) (c.in_ok-all.all ∷ [])
          c.rows.invariant.turn c.in_ok-all.ensures.turn;
      rows = λ odd class.
          subst (λ (xs : Candidates). IsUnderRows c.args.p.now c.args.widths.now c.args.node c.args.c odd (pairs_of xs) 1 (c.rows.row + 1) (made_of c.with_next.new.arena)
          (items_of c.with_next.new.pool c.in_ok-all.all)) same
          (c.in_ok-all.ensures.rows odd
          (closed_beside c.args.p.now c.args.widths.now c.args.node odd c.args.arena.now c.rows.arena c.args.pool.now c.rows.pool [] (c.rows.all ∷ []) (c.args.from.now ∷ []) c.requires.held
          c.rows.invariant.turn c.args.from.now (0, omega arith, refl) class)
          (subst (λ (xs : Candidates). IsUnderRows c.args.p.now c.args.widths.now c.args.node c.args.c odd (pairs_of xs) 1 c.rows.row (made_of c.rows.arena) (items_of c.rows.pool c.rows.all)) (sym same)
          (c.rows.invariant.rows odd class)));
      few = omega (arith, c.in_ok-all.ensures.few, c.rows.invariant.few, ap (λ (l : Candidates). length l) same);
    }

pub returns-clause-rows : goal.returns-clause-rows
returns-clause-rows g c = λ odd class.
    let last : c.rows.row ≡ length c.args.widths.now = omega (arith, c.rows.auto.row, c.rows-test.false, c.requires.widths.are.some) in
    subst (λ (n : ℕ). IsUnderRows c.args.p.now c.args.widths.now c.args.node c.args.c odd (pairs_of (items_of c.args.pool.now c.args.from.now)) 1 n (made_of c.rows.arena) (items_of c.rows.pool c.rows.all))
    last (c.rows.invariant.rows odd class)
