use Rattle.std.proofs.Common.{◌≡◌, ◌+◌, ◌∷◌, [], ℕ, get_or, length, sym, ap, subst, arith}
use Rattle.std.proofs.lemmas.List.Elements.{Contains-get_or}
use Rattle.sol_arena.specs.Arenas.{made_of}
use Rattle.wire_widths.specs.Widths.{wire_a, wire_r}
use Rattle.cand_pool.specs.Candidates.{Candidates}
use Rattle.cand_pool.specs.Pools.{items_of}
use Rattle.cand_pool.proofs.PublicLaws.{held_items}
use Rattle.cand_uses.specs.Pairs.{pair_of, pairs_of}
use Rattle.vg_convex.specs.Lists.{AreBareAt}
use Rattle.cand_turns.specs.Swaps.{search}
use Rattle.cand_turns.specs.Widened.{AreChosen, IsUnderRows}
use Rattle.cand_turns.proofs.SwapLemmas.{turn_then}
use Rattle.cand_turns.proofs.BranchLemmas.{one_held, one_turn}
use Rattle.cand_turns.proofs.CellLemmas.{bare_wire}
use Rattle.cand_turns.proofs.WireLemmas.{added_told, resistance_told, carried_small, chosen_modest, chosen_length, wire_length, under_row}
use Rattle.cand_lists.proofs.ExactLemmas.{pair_in}
use Rattle.cand_turns.proofs.carry.under.Goals as goal

pub widened-requires-clause-bare : goal.widened-requires-clause-bare
widened-requires-clause-bare g c =
    let (odd, class) = c.requires.closed in
    subst (λ (site : ℕ). AreBareAt (made_of c.args.arena.now) site (items_of c.args.pool.now c.args.from.now)) (sym c.site_of-site.ensures)
    (bare_wire c.args.p.now c.args.widths.now c.args.node odd c.args.arena.now (items_of c.args.pool.now c.args.from.now)
    (one_held (search c.args.pool.now c.args.arena.now) c.args.from.now c.requires.held).1 class.solved)

pub widened-requires-clause-modest : goal.widened-requires-clause-modest
widened-requires-clause-modest g c = λ k d low.
    let (odd, class) = c.requires.closed in
    let xs = items_of c.args.pool.now c.args.from.now in
    let added_is : c.added-added.result ≡ wire_a c.args.p.now c.args.widths.now c.args.row c.args.node
    = added_told c.args.p.now c.args.widths.now c.args.row c.args.node c.resistance_of-r.result c.added-added.result c.requires.row c.resistance_of-r.ensures c.added-added.ensures in
    let small = carried_small c.args.p.now c.args.widths.now c.requires.widths c.args.node odd c.requires.node (λ e. omega (arith, c.requires.below_root, e)) c.requires.live (pairs_of xs) class.exact
    c.args.row (pair_of (get_or xs k d)) c.requires.row (pair_in xs (get_or xs k d) (Contains-get_or xs k d low)) in
    omega (arith, small.0, added_is)

pub wire-requires-clause-live : goal.wire-requires-clause-live
wire-requires-clause-live g c = (one_held (search c.widened.new.pool c.widened.new.arena) c.in_ok-list.list c.in_ok-list.ensures.turn.held).0

pub wire-requires-clause-modest : goal.wire-requires-clause-modest
wire-requires-clause-modest g c =
    let (odd, class) = c.requires.closed in
    let added_is : c.added-added.result ≡ wire_a c.args.p.now c.args.widths.now c.args.row c.args.node
    = added_told c.args.p.now c.args.widths.now c.args.row c.args.node c.resistance_of-r.result c.added-added.result c.requires.row c.resistance_of-r.ensures c.added-added.ensures in
    chosen_modest c.args.p.now c.args.widths.now c.requires.widths c.args.node odd c.requires.node (λ e. omega (arith, c.requires.below_root, e)) c.requires.live
    (made_of c.args.arena.now) (made_of c.widened.new.arena) c.args.row (items_of c.args.pool.now c.args.from.now) (items_of c.widened.new.pool c.in_ok-list.list) c.requires.row class.exact
    (subst (λ (site : ℕ). AreChosen (made_of c.args.arena.now) (made_of c.widened.new.arena) site c.args.row (wire_a c.args.p.now c.args.widths.now c.args.row c.args.node)
    (items_of c.args.pool.now c.args.from.now) (items_of c.widened.new.pool c.in_ok-list.list)) c.site_of-site.ensures
    (subst (λ (a : ℕ). AreChosen (made_of c.args.arena.now) (made_of c.widened.new.arena) c.site_of-site.result c.args.row a
    (items_of c.args.pool.now c.args.from.now) (items_of c.widened.new.pool c.in_ok-list.list)) added_is c.in_ok-list.ensures.chosen))

pub returns-clause-turn : goal.returns-clause-turn
returns-clause-turn g c =
    let one = one_held (search c.widened.new.pool c.widened.new.arena) c.in_ok-list.list c.in_ok-list.ensures.turn.held in
    turn_then (search c.args.pool.now c.args.arena.now) (search c.widened.new.pool c.widened.new.arena) (search c.wire.new.pool c.wire.new.arena) [] (c.in_ok-list.list ∷ []) (c.wire.new.list ∷ [])
    c.in_ok-list.ensures.turn
    (one_turn (search c.widened.new.pool c.widened.new.arena) (search c.wire.new.pool c.wire.new.arena) c.in_ok-list.list c.wire.new.list _ one.1
    (c.wire.ensures.uses _ one.0) c.wire.ensures.others (c.wire.ensures.spare _ one.0) (c.wire.ensures.list _ one.0))

pub returns-clause-rows : goal.returns-clause-rows
returns-clause-rows g c = λ odd class.
    let one = one_held (search c.widened.new.pool c.widened.new.arena) c.in_ok-list.list c.in_ok-list.ensures.turn.held in
    let added_is : c.added-added.result ≡ wire_a c.args.p.now c.args.widths.now c.args.row c.args.node
    = added_told c.args.p.now c.args.widths.now c.args.row c.args.node c.resistance_of-r.result c.added-added.result c.requires.row c.resistance_of-r.ensures c.added-added.ensures in
    let r_is : c.resistance.result ≡ wire_r c.args.p.now c.args.widths.now c.args.row c.args.node
    = resistance_told c.args.p.now c.args.widths.now c.args.row c.args.node c.resistance_of-r.result c.resistance.result c.requires.row c.resistance_of-r.ensures c.resistance.ensures in
    let chosen = subst (λ (site : ℕ). AreChosen (made_of c.args.arena.now) (made_of c.widened.new.arena) site c.args.row c.added-added.result
    (items_of c.args.pool.now c.args.from.now) (items_of c.widened.new.pool c.in_ok-list.list)) c.site_of-site.ensures c.in_ok-list.ensures.chosen in
    subst (λ (zs : Candidates). IsUnderRows c.args.p.now c.args.widths.now c.args.node c.args.c odd (pairs_of (items_of c.args.pool.now c.args.from.now)) c.args.row (c.args.row + 1)
    (made_of c.wire.new.arena) zs) (sym (held_items _ _ _ _ (c.wire.ensures.list _ one.0)))
    (under_row c.args.p.now c.args.widths.now c.requires.widths c.args.node odd c.requires.node (λ e. omega (arith, c.requires.below_root, e)) c.requires.live
    (made_of c.args.arena.now) (made_of c.widened.new.arena) (made_of c.wire.new.arena) c.args.row c.resistance.result c.added-added.result c.args.c
    (items_of c.args.pool.now c.args.from.now) (items_of c.widened.new.pool c.in_ok-list.list) c.requires.some c.requires.row r_is added_is class chosen (c.wire.ensures.same _ one.0))

pub returns-clause-few : goal.returns-clause-few
returns-clause-few g c =
    let one = one_held (search c.widened.new.pool c.widened.new.arena) c.in_ok-list.list c.in_ok-list.ensures.turn.held in
    omega (
      arith,
      ap (λ (l : Candidates). length l) (held_items _ _ _ _ (c.wire.ensures.list _ one.0)),
      wire_length c.resistance.result c.args.c (items_of c.widened.new.pool c.in_ok-list.list),
      chosen_length _ _ _ _ _ (items_of c.args.pool.now c.args.from.now) (items_of c.widened.new.pool c.in_ok-list.list) c.in_ok-list.ensures.chosen,
    )
