use Rattle.std.proofs.Common.{◌+◌, ◌∷◌, [], length, refl, sym, ap, subst, arith}
use Rattle.sol_arena.specs.Arenas.{made_of}
use Rattle.cand_pool.specs.Candidates.{Candidates}
use Rattle.cand_pool.specs.Pools.{items_of}
use Rattle.cand_uses.specs.Pairs.{pairs_of}
use Rattle.cand_turns.specs.Swaps.{search}
use Rattle.cand_turns.specs.Widened.{IsUnderRows}
use Rattle.cand_turns.proofs.SwapLemmas.{turn_then}
use Rattle.cand_turns.proofs.BranchLemmas.{one_held, two_held, end_turn}
use Rattle.cand_turns.proofs.AddLemmas.{rest_held, list_more, still_held}
use Rattle.cand_turns.proofs.CellLemmas.{both_few}
use Rattle.cand_turns.proofs.SwapLemmas.{front_held, other_items}
use Rattle.cand_turns.proofs.RowLemmas.{rows_beside, rows_both, absorbed}
use Rattle.cand_turns.proofs.carry.with_next.Goals as goal

pub under-requires-clause-held : goal.under-requires-clause-held
under-requires-clause-held g c = rest_held (search c.args.pool.now c.args.arena.now) (c.args.all ∷ []) (c.args.from.now ∷ []) c.requires.held

pub absorb-requires-clause-live : goal.absorb-requires-clause-live
absorb-requires-clause-live g c =
    let one = front_held (search c.args.pool.now c.args.arena.now) (c.args.all ∷ []) (c.args.from.now ∷ []) c.requires.held in
    let more = list_more (search c.args.pool.now c.args.arena.now) (search c.under.new.pool c.under.new.arena) c.args.all c.in-Ok.other one c.in-Ok.ensures.turn in
    (two_held (search c.under.new.pool c.under.new.arena) c.args.all c.in-Ok.other more.held).one

pub absorb-requires-clause-other : goal.absorb-requires-clause-other
absorb-requires-clause-other g c =
    let one = front_held (search c.args.pool.now c.args.arena.now) (c.args.all ∷ []) (c.args.from.now ∷ []) c.requires.held in
    let more = list_more (search c.args.pool.now c.args.arena.now) (search c.under.new.pool c.under.new.arena) c.args.all c.in-Ok.other one c.in-Ok.ensures.turn in
    (two_held (search c.under.new.pool c.under.new.arena) c.args.all c.in-Ok.other more.held).two

pub absorb-requires-clause-differ : goal.absorb-requires-clause-differ
absorb-requires-clause-differ g c =
    let one = front_held (search c.args.pool.now c.args.arena.now) (c.args.all ∷ []) (c.args.from.now ∷ []) c.requires.held in
    let more = list_more (search c.args.pool.now c.args.arena.now) (search c.under.new.pool c.under.new.arena) c.args.all c.in-Ok.other one c.in-Ok.ensures.turn in
    (two_held (search c.under.new.pool c.under.new.arena) c.args.all c.in-Ok.other more.held).apart

pub absorb-requires-clause-held : goal.absorb-requires-clause-held
absorb-requires-clause-held g c =
    let one = front_held (search c.args.pool.now c.args.arena.now) (c.args.all ∷ []) (c.args.from.now ∷ []) c.requires.held in
    let more = list_more (search c.args.pool.now c.args.arena.now) (search c.under.new.pool c.under.new.arena) c.args.all c.in-Ok.other one c.in-Ok.ensures.turn in
    (two_held (search c.under.new.pool c.under.new.arena) c.args.all c.in-Ok.other more.held).both

pub absorb-requires-clause-rising_list : goal.absorb-requires-clause-rising_list
absorb-requires-clause-rising_list g c =
    let (odd, class, rows) = c.requires.class in
    let one = front_held (search c.args.pool.now c.args.arena.now) (c.args.all ∷ []) (c.args.from.now ∷ []) c.requires.held in
    (rows_beside c.args.p.now c.args.widths.now c.args.node c.args.c odd (pairs_of (items_of c.args.pool.now c.args.from.now)) 1 c.args.row c.args.arena.now c.under.new.arena
    c.args.pool.now c.under.new.pool [] (c.in-Ok.other ∷ []) (c.args.all ∷ []) one c.in-Ok.ensures.turn c.args.all (0, omega arith, refl) rows).exact.rising

pub absorb-requires-clause-rising_other : goal.absorb-requires-clause-rising_other
absorb-requires-clause-rising_other g c =
    let (odd, class, rows) = c.requires.class in
    (c.in-Ok.ensures.rows odd class).exact.rising

pub end_list-requires-clause-live : goal.end_list-requires-clause-live
end_list-requires-clause-live g c =
    let one = front_held (search c.args.pool.now c.args.arena.now) (c.args.all ∷ []) (c.args.from.now ∷ []) c.requires.held in
    (one_held (search c.under.new.pool c.under.new.arena) c.args.all
    (still_held (search c.args.pool.now c.args.arena.now) (search c.under.new.pool c.under.new.arena) c.args.all one c.in-Err.ensures.turn).held).0

pub end_list-requires-clause-held : goal.end_list-requires-clause-held
end_list-requires-clause-held g c =
    let one = front_held (search c.args.pool.now c.args.arena.now) (c.args.all ∷ []) (c.args.from.now ∷ []) c.requires.held in
    (one_held (search c.under.new.pool c.under.new.arena) c.args.all
    (still_held (search c.args.pool.now c.args.arena.now) (search c.under.new.pool c.under.new.arena) c.args.all one c.in-Err.ensures.turn).held).1

pub returns-in-Ok-clause-turn : goal.returns-in-Ok-clause-turn
returns-in-Ok-clause-turn g c =
    let one = front_held (search c.args.pool.now c.args.arena.now) (c.args.all ∷ []) (c.args.from.now ∷ []) c.requires.held in
    let more = list_more (search c.args.pool.now c.args.arena.now) (search c.under.new.pool c.under.new.arena) c.args.all c.in-Ok.other one c.in-Ok.ensures.turn in
    turn_then (search c.args.pool.now c.args.arena.now) (search c.under.new.pool c.under.new.arena) (search c.absorb.new.pool c.absorb.new.arena) (c.args.all ∷ [])
    (c.args.all ∷ c.in-Ok.other ∷ []) (c.absorb.new.list ∷ []) more
    (absorbed c.under.new.arena c.absorb.new.arena c.under.new.pool c.absorb.new.pool c.args.all c.in-Ok.other c.absorb.new.list more.held
    c.absorb.ensures.list c.absorb.ensures.uses c.absorb.ensures.same c.absorb.ensures.others c.absorb.ensures.spare).turn

pub returns-in-Ok-clause-rows : goal.returns-in-Ok-clause-rows
returns-in-Ok-clause-rows g c = λ odd class rows.
    let one = front_held (search c.args.pool.now c.args.arena.now) (c.args.all ∷ []) (c.args.from.now ∷ []) c.requires.held in
    let more = list_more (search c.args.pool.now c.args.arena.now) (search c.under.new.pool c.under.new.arena) c.args.all c.in-Ok.other one c.in-Ok.ensures.turn in
    let all = absorbed c.under.new.arena c.absorb.new.arena c.under.new.pool c.absorb.new.pool c.args.all c.in-Ok.other c.absorb.new.list more.held
    c.absorb.ensures.list c.absorb.ensures.uses c.absorb.ensures.same c.absorb.ensures.others c.absorb.ensures.spare in
    let kept = pairs_of (items_of c.args.pool.now c.args.from.now) in
    let still = rows_beside c.args.p.now c.args.widths.now c.args.node c.args.c odd kept 1 c.args.row c.args.arena.now c.under.new.arena
    c.args.pool.now c.under.new.pool [] (c.in-Ok.other ∷ []) (c.args.all ∷ []) one c.in-Ok.ensures.turn c.args.all (0, omega arith, refl) rows in
    subst (λ (zs : Candidates). IsUnderRows c.args.p.now c.args.widths.now c.args.node c.args.c odd kept 1 (c.args.row + 1) (made_of c.absorb.new.arena) zs) (sym all.items)
    (rows_both c.args.p.now c.args.widths.now c.requires.widths c.args.node odd c.requires.node (λ e. omega (arith, c.requires.below_root, e)) c.requires.live kept class.exact
    c.args.c 1 c.args.row (c.args.row + 1) (made_of c.under.new.arena) (made_of c.absorb.new.arena) (items_of c.under.new.pool c.args.all) (items_of c.under.new.pool c.in-Ok.other)
    (omega (arith, c.requires.some)) (omega arith) (omega (arith, c.requires.row)) still (c.in-Ok.ensures.rows odd class) all.same)

pub returns-in-Ok-clause-few : goal.returns-in-Ok-clause-few
returns-in-Ok-clause-few g c =
    let one = front_held (search c.args.pool.now c.args.arena.now) (c.args.all ∷ []) (c.args.from.now ∷ []) c.requires.held in
    let more = list_more (search c.args.pool.now c.args.arena.now) (search c.under.new.pool c.under.new.arena) c.args.all c.in-Ok.other one c.in-Ok.ensures.turn in
    let all = absorbed c.under.new.arena c.absorb.new.arena c.under.new.pool c.absorb.new.pool c.args.all c.in-Ok.other c.absorb.new.list more.held
    c.absorb.ensures.list c.absorb.ensures.uses c.absorb.ensures.same c.absorb.ensures.others c.absorb.ensures.spare in
    omega (
      arith,
      ap (λ (l : Candidates). length l) all.items,
      both_few (items_of c.under.new.pool c.args.all) (items_of c.under.new.pool c.in-Ok.other),
      c.in-Ok.ensures.few,
      ap (λ (l : Candidates). length l) (other_items (search c.args.pool.now c.args.arena.now) (search c.under.new.pool c.under.new.arena) [] (c.in-Ok.other ∷ []) (c.args.all ∷ []) one
          c.in-Ok.ensures.turn c.args.all (0, omega arith, refl)),
    )

pub returns-in-Err-clause-turn : goal.returns-in-Err-clause-turn
returns-in-Err-clause-turn g c =
    let one = front_held (search c.args.pool.now c.args.arena.now) (c.args.all ∷ []) (c.args.from.now ∷ []) c.requires.held in
    (turn_then (search c.args.pool.now c.args.arena.now) (search c.under.new.pool c.under.new.arena) (search c.end_list.new.pool c.end_list.new.arena) (c.args.all ∷ []) (c.args.all ∷ []) []
    (still_held (search c.args.pool.now c.args.arena.now) (search c.under.new.pool c.under.new.arena) c.args.all one c.in-Err.ensures.turn)
    (end_turn (search c.under.new.pool c.under.new.arena) (search c.end_list.new.pool c.end_list.new.arena) c.args.all c.end_list.ensures.uses c.end_list.ensures.others c.end_list.ensures.spare)).swap
