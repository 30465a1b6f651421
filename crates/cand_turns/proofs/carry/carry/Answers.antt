use Rattle.std.proofs.Common.{◌<◌, ◌^◌, ◌∷◌, [], length, refl, sym, ap, subst, arith}
use Rattle.sol_arena.specs.Arenas.{made_of}
use Rattle.cand_pairs.proofs.SmallPairLemmas.{resistance_small}
use Rattle.cand_pool.specs.Candidates.{Candidates, AreModest}
use Rattle.cand_pool.specs.Pools.{items_of}
use Rattle.cand_pool.proofs.PublicLaws.{held_items}
use Rattle.cand_uses.specs.Pairs.{pairs_of}
use Rattle.cand_lists.specs.ListLaws.{above_wire}
use Rattle.cand_turns.specs.Swaps.{search}
use Rattle.cand_turns.specs.Solved.{IsCarriedClass}
use Rattle.cand_turns.specs.Widened.{IsUnderRows}
use Rattle.cand_turns.proofs.SwapLemmas.{turn_then, other_items}
use Rattle.cand_turns.proofs.BranchLemmas.{one_held, one_turn, two_held, even_turn, end_turn}
use Rattle.cand_turns.proofs.AddLemmas.{list_more, still_held}
use Rattle.cand_turns.proofs.CellLemmas.{both_few}
use Rattle.cand_turns.proofs.WireLemmas.{small_modest, closed_small, under_first, wire_length}
use Rattle.cand_turns.proofs.RowLemmas.{closed_beside, rows_beside, rows_both, all_rows, absorbed}
use Rattle.cand_turns.proofs.carry.carry.Goals as goal

pub wire-requires-clause-live : goal.wire-requires-clause-live
wire-requires-clause-live g c =
    let more = list_more (search c.args.pool.now c.args.arena.now) (search c.wider.new.pool c.wider.new.arena) c.args.list c.in-Ok.others c.requires.held c.in-Ok.ensures.turn in
    let two = two_held (search c.wider.new.pool c.wider.new.arena) c.args.list c.in-Ok.others more.held in
    two.one

pub wire-requires-clause-held : goal.wire-requires-clause-held
wire-requires-clause-held g c =
    let more = list_more (search c.args.pool.now c.args.arena.now) (search c.wider.new.pool c.wider.new.arena) c.args.list c.in-Ok.others c.requires.held c.in-Ok.ensures.turn in
    let two = two_held (search c.wider.new.pool c.wider.new.arena) c.args.list c.in-Ok.others more.held in
    two.first

pub wire-requires-clause-modest : goal.wire-requires-clause-modest
wire-requires-clause-modest g c =
    let (odd, class) = c.requires.closed in
    let same = other_items (search c.args.pool.now c.args.arena.now) (search c.wider.new.pool c.wider.new.arena) [] (c.in-Ok.others ∷ []) (c.args.list ∷ []) c.requires.held c.in-Ok.ensures.turn c.args.list (0, omega arith, refl) in
    subst AreModest (sym same) (small_modest (items_of c.args.pool.now c.args.list) (closed_small c.args.p.now c.args.widths.now c.args.node odd (items_of c.args.pool.now c.args.list) c.requires.widths class.exact))

pub absorb-requires-clause-live : goal.absorb-requires-clause-live
absorb-requires-clause-live g c =
    let more = list_more (search c.args.pool.now c.args.arena.now) (search c.wider.new.pool c.wider.new.arena) c.args.list c.in-Ok.others c.requires.held c.in-Ok.ensures.turn in
    let two = two_held (search c.wider.new.pool c.wider.new.arena) c.args.list c.in-Ok.others more.held in
    let one = one_turn (search c.wider.new.pool c.wider.new.arena) (search c.wire.new.pool c.wire.new.arena) c.args.list c.wire.new.list _ two.first (c.wire.ensures.uses _ two.one) c.wire.ensures.others (c.wire.ensures.spare _ two.one) (c.wire.ensures.list _ two.one) in
    let first = even_turn (search c.wider.new.pool c.wider.new.arena) (search c.wire.new.pool c.wire.new.arena) (record { even = c.args.list; odd = c.in-Ok.others }) c.wire.new.list more.held one in
    (two_held (search c.wire.new.pool c.wire.new.arena) c.wire.new.list c.in-Ok.others first.held).one

pub absorb-requires-clause-other : goal.absorb-requires-clause-other
absorb-requires-clause-other g c =
    let more = list_more (search c.args.pool.now c.args.arena.now) (search c.wider.new.pool c.wider.new.arena) c.args.list c.in-Ok.others c.requires.held c.in-Ok.ensures.turn in
    let two = two_held (search c.wider.new.pool c.wider.new.arena) c.args.list c.in-Ok.others more.held in
    let one = one_turn (search c.wider.new.pool c.wider.new.arena) (search c.wire.new.pool c.wire.new.arena) c.args.list c.wire.new.list _ two.first (c.wire.ensures.uses _ two.one) c.wire.ensures.others (c.wire.ensures.spare _ two.one) (c.wire.ensures.list _ two.one) in
    let first = even_turn (search c.wider.new.pool c.wider.new.arena) (search c.wire.new.pool c.wire.new.arena) (record { even = c.args.list; odd = c.in-Ok.others }) c.wire.new.list more.held one in
    (two_held (search c.wire.new.pool c.wire.new.arena) c.wire.new.list c.in-Ok.others first.held).two

pub absorb-requires-clause-differ : goal.absorb-requires-clause-differ
absorb-requires-clause-differ g c =
    let more = list_more (search c.args.pool.now c.args.arena.now) (search c.wider.new.pool c.wider.new.arena) c.args.list c.in-Ok.others c.requires.held c.in-Ok.ensures.turn in
    let two = two_held (search c.wider.new.pool c.wider.new.arena) c.args.list c.in-Ok.others more.held in
    let one = one_turn (search c.wider.new.pool c.wider.new.arena) (search c.wire.new.pool c.wire.new.arena) c.args.list c.wire.new.list _ two.first (c.wire.ensures.uses _ two.one) c.wire.ensures.others (c.wire.ensures.spare _ two.one) (c.wire.ensures.list _ two.one) in
    let first = even_turn (search c.wider.new.pool c.wider.new.arena) (search c.wire.new.pool c.wire.new.arena) (record { even = c.args.list; odd = c.in-Ok.others }) c.wire.new.list more.held one in
    (two_held (search c.wire.new.pool c.wire.new.arena) c.wire.new.list c.in-Ok.others first.held).apart

pub absorb-requires-clause-held : goal.absorb-requires-clause-held
absorb-requires-clause-held g c =
    let more = list_more (search c.args.pool.now c.args.arena.now) (search c.wider.new.pool c.wider.new.arena) c.args.list c.in-Ok.others c.requires.held c.in-Ok.ensures.turn in
    let two = two_held (search c.wider.new.pool c.wider.new.arena) c.args.list c.in-Ok.others more.held in
    let one = one_turn (search c.wider.new.pool c.wider.new.arena) (search c.wire.new.pool c.wire.new.arena) c.args.list c.wire.new.list _ two.first (c.wire.ensures.uses _ two.one) c.wire.ensures.others (c.wire.ensures.spare _ two.one) (c.wire.ensures.list _ two.one) in
    let first = even_turn (search c.wider.new.pool c.wider.new.arena) (search c.wire.new.pool c.wire.new.arena) (record { even = c.args.list; odd = c.in-Ok.others }) c.wire.new.list more.held one in
    (two_held (search c.wire.new.pool c.wire.new.arena) c.wire.new.list c.in-Ok.others first.held).both

pub absorb-requires-clause-rising_list : goal.absorb-requires-clause-rising_list
absorb-requires-clause-rising_list g c =
    let (odd, class) = c.requires.closed in
    let more = list_more (search c.args.pool.now c.args.arena.now) (search c.wider.new.pool c.wider.new.arena) c.args.list c.in-Ok.others c.requires.held c.in-Ok.ensures.turn in
    let two = two_held (search c.wider.new.pool c.wider.new.arena) c.args.list c.in-Ok.others more.held in
    let one = one_turn (search c.wider.new.pool c.wider.new.arena) (search c.wire.new.pool c.wire.new.arena) c.args.list c.wire.new.list _ two.first (c.wire.ensures.uses _ two.one) c.wire.ensures.others (c.wire.ensures.spare _ two.one) (c.wire.ensures.list _ two.one) in
    let same = other_items (search c.args.pool.now c.args.arena.now) (search c.wider.new.pool c.wider.new.arena) [] (c.in-Ok.others ∷ []) (c.args.list ∷ []) c.requires.held c.in-Ok.ensures.turn c.args.list (0, omega arith, refl) in
    let r_n : c.resistance_of.result < 2 ^ 64 = omega (arith, c.resistance_of.ensures, resistance_small c.args.p.now c.args.node c.requires.node) in
    let wired = subst (λ (zs : Candidates). IsUnderRows c.args.p.now c.args.widths.now c.args.node c.args.c odd (pairs_of (items_of c.args.pool.now c.args.list)) 0 1 (made_of c.wire.new.arena) zs)
    (sym (held_items _ _ _ _ (c.wire.ensures.list _ two.one)))
    (subst (λ (xs : Candidates). IsUnderRows c.args.p.now c.args.widths.now c.args.node c.args.c odd (pairs_of xs) 0 1 (made_of c.wire.new.arena) (above_wire c.resistance_of.result c.args.c (items_of c.wider.new.pool c.args.list))) same
    (under_first c.args.p.now c.args.widths.now c.requires.widths c.args.node odd c.requires.node (made_of c.wider.new.arena) (made_of c.wire.new.arena) c.resistance_of.result c.args.c
    (items_of c.wider.new.pool c.args.list) c.resistance_of.ensures r_n
    (closed_beside c.args.p.now c.args.widths.now c.args.node odd c.args.arena.now c.wider.new.arena c.args.pool.now c.wider.new.pool [] (c.in-Ok.others ∷ []) (c.args.list ∷ []) c.requires.held
    c.in-Ok.ensures.turn c.args.list (0, omega arith, refl) class)
    (c.wire.ensures.same _ two.one))) in
    wired.exact.rising

pub absorb-requires-clause-rising_other : goal.absorb-requires-clause-rising_other
absorb-requires-clause-rising_other g c =
    let (odd, class) = c.requires.closed in
    let more = list_more (search c.args.pool.now c.args.arena.now) (search c.wider.new.pool c.wider.new.arena) c.args.list c.in-Ok.others c.requires.held c.in-Ok.ensures.turn in
    let two = two_held (search c.wider.new.pool c.wider.new.arena) c.args.list c.in-Ok.others more.held in
    let one = one_turn (search c.wider.new.pool c.wider.new.arena) (search c.wire.new.pool c.wire.new.arena) c.args.list c.wire.new.list _ two.first (c.wire.ensures.uses _ two.one) c.wire.ensures.others (c.wire.ensures.spare _ two.one) (c.wire.ensures.list _ two.one) in
    let others = rows_beside c.args.p.now c.args.widths.now c.args.node c.args.c odd (pairs_of (items_of c.args.pool.now c.args.list)) 1 (length c.args.widths.now) c.wider.new.arena c.wire.new.arena
    c.wider.new.pool c.wire.new.pool (c.args.list ∷ []) (c.wire.new.list ∷ []) (c.in-Ok.others ∷ []) more.held one c.in-Ok.others (0, omega arith, refl) (c.in-Ok.ensures.rows odd class) in
    others.exact.rising

pub end_list-requires-clause-live : goal.end_list-requires-clause-live
end_list-requires-clause-live g c =
    (one_held (search c.wider.new.pool c.wider.new.arena) c.args.list (still_held (search c.args.pool.now c.args.arena.now) (search c.wider.new.pool c.wider.new.arena) c.args.list c.requires.held c.in-Err.ensures.turn).held).0

pub end_list-requires-clause-held : goal.end_list-requires-clause-held
end_list-requires-clause-held g c =
    (one_held (search c.wider.new.pool c.wider.new.arena) c.args.list (still_held (search c.args.pool.now c.args.arena.now) (search c.wider.new.pool c.wider.new.arena) c.args.list c.requires.held c.in-Err.ensures.turn).held).1

pub returns-in-Ok-clause-turn : goal.returns-in-Ok-clause-turn
returns-in-Ok-clause-turn g c =
    let more = list_more (search c.args.pool.now c.args.arena.now) (search c.wider.new.pool c.wider.new.arena) c.args.list c.in-Ok.others c.requires.held c.in-Ok.ensures.turn in
    let two = two_held (search c.wider.new.pool c.wider.new.arena) c.args.list c.in-Ok.others more.held in
    let one = one_turn (search c.wider.new.pool c.wider.new.arena) (search c.wire.new.pool c.wire.new.arena) c.args.list c.wire.new.list _ two.first (c.wire.ensures.uses _ two.one) c.wire.ensures.others (c.wire.ensures.spare _ two.one) (c.wire.ensures.list _ two.one) in
    let first = even_turn (search c.wider.new.pool c.wider.new.arena) (search c.wire.new.pool c.wire.new.arena) (record { even = c.args.list; odd = c.in-Ok.others }) c.wire.new.list more.held one in
    let all = absorbed c.wire.new.arena c.absorb.new.arena c.wire.new.pool c.absorb.new.pool c.wire.new.list c.in-Ok.others c.absorb.new.list first.held
    c.absorb.ensures.list c.absorb.ensures.uses c.absorb.ensures.same c.absorb.ensures.others c.absorb.ensures.spare in
    turn_then (search c.args.pool.now c.args.arena.now) (search c.wider.new.pool c.wider.new.arena) (search c.absorb.new.pool c.absorb.new.arena) (c.args.list ∷ []) (c.args.list ∷ c.in-Ok.others ∷ []) (c.absorb.new.list ∷ []) more
    (turn_then (search c.wider.new.pool c.wider.new.arena) (search c.wire.new.pool c.wire.new.arena) (search c.absorb.new.pool c.absorb.new.arena) (c.args.list ∷ c.in-Ok.others ∷ []) (c.wire.new.list ∷ c.in-Ok.others ∷ []) (c.absorb.new.list ∷ []) first all.turn)

pub returns-in-Ok-clause-carried : goal.returns-in-Ok-clause-carried
returns-in-Ok-clause-carried g c = λ odd class.
    let more = list_more (search c.args.pool.now c.args.arena.now) (search c.wider.new.pool c.wider.new.arena) c.args.list c.in-Ok.others c.requires.held c.in-Ok.ensures.turn in
    let two = two_held (search c.wider.new.pool c.wider.new.arena) c.args.list c.in-Ok.others more.held in
    let one = one_turn (search c.wider.new.pool c.wider.new.arena) (search c.wire.new.pool c.wire.new.arena) c.args.list c.wire.new.list _ two.first (c.wire.ensures.uses _ two.one) c.wire.ensures.others (c.wire.ensures.spare _ two.one) (c.wire.ensures.list _ two.one) in
    let first = even_turn (search c.wider.new.pool c.wider.new.arena) (search c.wire.new.pool c.wire.new.arena) (record { even = c.args.list; odd = c.in-Ok.others }) c.wire.new.list more.held one in
    let all = absorbed c.wire.new.arena c.absorb.new.arena c.wire.new.pool c.absorb.new.pool c.wire.new.list c.in-Ok.others c.absorb.new.list first.held
    c.absorb.ensures.list c.absorb.ensures.uses c.absorb.ensures.same c.absorb.ensures.others c.absorb.ensures.spare in
    let same = other_items (search c.args.pool.now c.args.arena.now) (search c.wider.new.pool c.wider.new.arena) [] (c.in-Ok.others ∷ []) (c.args.list ∷ []) c.requires.held c.in-Ok.ensures.turn c.args.list (0, omega arith, refl) in
    let r_n : c.resistance_of.result < 2 ^ 64 = omega (arith, c.resistance_of.ensures, resistance_small c.args.p.now c.args.node c.requires.node) in
    let wired = subst (λ (zs : Candidates). IsUnderRows c.args.p.now c.args.widths.now c.args.node c.args.c odd (pairs_of (items_of c.args.pool.now c.args.list)) 0 1 (made_of c.wire.new.arena) zs)
    (sym (held_items _ _ _ _ (c.wire.ensures.list _ two.one)))
    (subst (λ (xs : Candidates). IsUnderRows c.args.p.now c.args.widths.now c.args.node c.args.c odd (pairs_of xs) 0 1 (made_of c.wire.new.arena) (above_wire c.resistance_of.result c.args.c (items_of c.wider.new.pool c.args.list))) same
    (under_first c.args.p.now c.args.widths.now c.requires.widths c.args.node odd c.requires.node (made_of c.wider.new.arena) (made_of c.wire.new.arena) c.resistance_of.result c.args.c
    (items_of c.wider.new.pool c.args.list) c.resistance_of.ensures r_n
    (closed_beside c.args.p.now c.args.widths.now c.args.node odd c.args.arena.now c.wider.new.arena c.args.pool.now c.wider.new.pool [] (c.in-Ok.others ∷ []) (c.args.list ∷ []) c.requires.held
    c.in-Ok.ensures.turn c.args.list (0, omega arith, refl) class)
    (c.wire.ensures.same _ two.one))) in
    let others = rows_beside c.args.p.now c.args.widths.now c.args.node c.args.c odd (pairs_of (items_of c.args.pool.now c.args.list)) 1 (length c.args.widths.now) c.wider.new.arena c.wire.new.arena
    c.wider.new.pool c.wire.new.pool (c.args.list ∷ []) (c.wire.new.list ∷ []) (c.in-Ok.others ∷ []) more.held one c.in-Ok.others (0, omega arith, refl) (c.in-Ok.ensures.rows odd class) in
    subst (λ (zs : Candidates). IsCarriedClass c.args.p.now c.args.widths.now c.args.node c.args.c odd (pairs_of (items_of c.args.pool.now c.args.list)) (made_of c.absorb.new.arena) zs) (sym all.items)
    (all_rows c.args.p.now c.args.widths.now c.requires.widths c.args.node odd c.requires.node (λ e. omega (arith, c.requires.below_root, e)) c.requires.live (pairs_of (items_of c.args.pool.now c.args.list)) class.exact c.args.c
    (made_of c.absorb.new.arena) _
    (rows_both c.args.p.now c.args.widths.now c.requires.widths c.args.node odd c.requires.node (λ e. omega (arith, c.requires.below_root, e)) c.requires.live (pairs_of (items_of c.args.pool.now c.args.list)) class.exact c.args.c
    0 1 (length c.args.widths.now) (made_of c.wire.new.arena) (made_of c.absorb.new.arena) (items_of c.wire.new.pool c.wire.new.list) (items_of c.wire.new.pool c.in-Ok.others)
    (omega arith) (omega (arith, c.requires.widths.are.some)) (omega arith) wired others all.same))

pub returns-in-Ok-clause-few : goal.returns-in-Ok-clause-few
returns-in-Ok-clause-few g c =
    let more = list_more (search c.args.pool.now c.args.arena.now) (search c.wider.new.pool c.wider.new.arena) c.args.list c.in-Ok.others c.requires.held c.in-Ok.ensures.turn in
    let two = two_held (search c.wider.new.pool c.wider.new.arena) c.args.list c.in-Ok.others more.held in
    let one = one_turn (search c.wider.new.pool c.wider.new.arena) (search c.wire.new.pool c.wire.new.arena) c.args.list c.wire.new.list _ two.first (c.wire.ensures.uses _ two.one) c.wire.ensures.others (c.wire.ensures.spare _ two.one) (c.wire.ensures.list _ two.one) in
    let first = even_turn (search c.wider.new.pool c.wider.new.arena) (search c.wire.new.pool c.wire.new.arena) (record { even = c.args.list; odd = c.in-Ok.others }) c.wire.new.list more.held one in
    let all = absorbed c.wire.new.arena c.absorb.new.arena c.wire.new.pool c.absorb.new.pool c.wire.new.list c.in-Ok.others c.absorb.new.list first.held
    c.absorb.ensures.list c.absorb.ensures.uses c.absorb.ensures.same c.absorb.ensures.others c.absorb.ensures.spare in
    let same = other_items (search c.args.pool.now c.args.arena.now) (search c.wider.new.pool c.wider.new.arena) [] (c.in-Ok.others ∷ []) (c.args.list ∷ []) c.requires.held c.in-Ok.ensures.turn c.args.list (0, omega arith, refl) in
    omega (
      arith,
      ap (λ (l : Candidates). length l) all.items,
      both_few (items_of c.wire.new.pool c.wire.new.list) (items_of c.wire.new.pool c.in-Ok.others),
      c.in-Ok.ensures.few,
      ap (λ (l : Candidates). length l) (held_items _ _ _ _ (c.wire.ensures.list _ two.one)),
      wire_length c.resistance_of.result c.args.c (items_of c.wider.new.pool c.args.list),
      ap (λ (l : Candidates). length l) same,
      ap (λ (l : Candidates). length l) (other_items (search c.wider.new.pool c.wider.new.arena) (search c.wire.new.pool c.wire.new.arena) (c.args.list ∷ []) (c.wire.new.list ∷ []) (c.in-Ok.others ∷ []) more.held one c.in-Ok.others (0, omega arith, refl)),
    )

pub returns-in-Err-clause-turn : goal.returns-in-Err-clause-turn
returns-in-Err-clause-turn g c =
    (turn_then (search c.args.pool.now c.args.arena.now) (search c.wider.new.pool c.wider.new.arena) (search c.end_list.new.pool c.end_list.new.arena) (c.args.list ∷ []) (c.args.list ∷ []) []
    (still_held (search c.args.pool.now c.args.arena.now) (search c.wider.new.pool c.wider.new.arena) c.args.list c.requires.held c.in-Err.ensures.turn)
    (end_turn (search c.wider.new.pool c.wider.new.arena) (search c.end_list.new.pool c.end_list.new.arena) c.args.list c.end_list.ensures.uses c.end_list.ensures.others c.end_list.ensures.spare)).swap
