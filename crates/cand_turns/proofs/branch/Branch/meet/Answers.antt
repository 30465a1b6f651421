use Rattle.std.proofs.Common.{◌≤◌, ◌+◌, ◌∷◌, [], true, false, length, refl, sym, ap, arith, inl, inr}
use Rattle.std.proofs.lemmas.Bool.{cases_Bool}
use Rattle.elmore.specs.Trees.{parent_of}
use Rattle.sol_arena.specs.Arenas.{slots_of, made_of}
use Rattle.cand_pairs.specs.Merging.{Meets, fork_from}
use Rattle.wire_widths.specs.WideSolutions.{IsWideOpenSolutionOf}
use Rattle.cand_pool.specs.Candidates.{Candidates}
use Rattle.cand_pool.specs.Pools.{items_of}
use Rattle.cand_uses.specs.Pairs.{pairs_of}
use Rattle.cand_turns.specs.Swaps.{search}
use Rattle.cand_turns.proofs.SwapLemmas.{turn_then, beside, other_items}
use Rattle.cand_turns.proofs.BranchLemmas.{one_held, end_turn}
use Rattle.cand_turns.proofs.MeetLemmas.{merge_turn, lost_turn, evens_two, met_first, met_then, can_meet, met_solved, solved_beside, open_beside, carried_beside, exact_as, both_met}
use Rattle.cand_turns.proofs.branch.Branch.meet.Goals as goal

pub merge-requires-clause-live : goal.merge-requires-clause-live
merge-requires-clause-live g c =
    let two = evens_two (search c.args.pool.now c.args.arena.now) c.args.self.even c.args.self.odd c.args.lower.even c.args.lower.odd c.requires.held in
    (two.one, two.two)

pub merge-requires-clause-differ : goal.merge-requires-clause-differ
merge-requires-clause-differ g c =
    let two = evens_two (search c.args.pool.now c.args.arena.now) c.args.self.even c.args.self.odd c.args.lower.even c.args.lower.odd c.requires.held in
    two.apart

pub merge-requires-clause-meet : goal.merge-requires-clause-meet
merge-requires-clause-meet g c =
    let two = evens_two (search c.args.pool.now c.args.arena.now) c.args.self.even c.args.self.odd c.args.lower.even c.args.lower.odd c.requires.held in
    can_meet c.args.p.now c.args.widths.now c.args.node false _ (slots_of c.args.arena.now) _ _ c.requires.widths c.requires.below_root c.requires.node c.requires.live
    (record { exact = c.requires.upper.part.exact false; solved = c.requires.upper.solved false })
    (c.requires.lower.1 false)
    two.both

pub end_list-requires-clause-live : goal.end_list-requires-clause-live
end_list-requires-clause-live g c =
    let two = evens_two (search c.args.pool.now c.args.arena.now) c.args.self.even c.args.self.odd c.args.lower.even c.args.lower.odd c.requires.held in
    let one = lost_turn (search c.args.pool.now c.args.arena.now) (search c.merge.new.pool c.merge.new.arena) c.args.self.even c.args.lower.even (c.in-Err.ensures.uses _ _ two.one two.two) c.in-Err.ensures.others (c.in-Err.ensures.spare _ _ two.one two.two) in
    let met = met_first (search c.args.pool.now c.args.arena.now) (search c.merge.new.pool c.merge.new.arena) c.args.self.even c.args.self.odd c.args.lower.even c.args.lower.odd [] c.requires.held one in
    met.left.one

pub end_list-requires-clause-held : goal.end_list-requires-clause-held
end_list-requires-clause-held g c =
    let two = evens_two (search c.args.pool.now c.args.arena.now) c.args.self.even c.args.self.odd c.args.lower.even c.args.lower.odd c.requires.held in
    let one = lost_turn (search c.args.pool.now c.args.arena.now) (search c.merge.new.pool c.merge.new.arena) c.args.self.even c.args.lower.even (c.in-Err.ensures.uses _ _ two.one two.two) c.in-Err.ensures.others (c.in-Err.ensures.spare _ _ two.one two.two) in
    let met = met_first (search c.args.pool.now c.args.arena.now) (search c.merge.new.pool c.merge.new.arena) c.args.self.even c.args.self.odd c.args.lower.even c.args.lower.odd [] c.requires.held one in
    met.left.first

pub end_list-requires-in-Err-clause-live : goal.end_list-requires-in-Err-clause-live
end_list-requires-in-Err-clause-live g c =
    let two = evens_two (search c.args.pool.now c.args.arena.now) c.args.self.even c.args.self.odd c.args.lower.even c.args.lower.odd c.requires.held in
    let one = lost_turn (search c.args.pool.now c.args.arena.now) (search c.merge.new.pool c.merge.new.arena) c.args.self.even c.args.lower.even (c.in-Err.ensures.uses _ _ two.one two.two) c.in-Err.ensures.others (c.in-Err.ensures.spare _ _ two.one two.two) in
    let met = met_first (search c.args.pool.now c.args.arena.now) (search c.merge.new.pool c.merge.new.arena) c.args.self.even c.args.self.odd c.args.lower.even c.args.lower.odd [] c.requires.held one in
    let first = end_turn (search c.merge.new.pool c.merge.new.arena) (search c.end_list.new.pool c.end_list.new.arena) c.args.self.odd c.end_list.ensures.uses c.end_list.ensures.others c.end_list.ensures.spare in
    let rest = beside (search c.merge.new.pool c.merge.new.arena) (search c.end_list.new.pool c.end_list.new.arena) (c.args.self.odd ∷ []) [] (c.args.lower.odd ∷ []) met.whole.held first in
    (one_held (search c.end_list.new.pool c.end_list.new.arena) c.args.lower.odd rest.held).0

pub end_list-requires-in-Err-clause-held : goal.end_list-requires-in-Err-clause-held
end_list-requires-in-Err-clause-held g c =
    let two = evens_two (search c.args.pool.now c.args.arena.now) c.args.self.even c.args.self.odd c.args.lower.even c.args.lower.odd c.requires.held in
    let one = lost_turn (search c.args.pool.now c.args.arena.now) (search c.merge.new.pool c.merge.new.arena) c.args.self.even c.args.lower.even (c.in-Err.ensures.uses _ _ two.one two.two) c.in-Err.ensures.others (c.in-Err.ensures.spare _ _ two.one two.two) in
    let met = met_first (search c.args.pool.now c.args.arena.now) (search c.merge.new.pool c.merge.new.arena) c.args.self.even c.args.self.odd c.args.lower.even c.args.lower.odd [] c.requires.held one in
    let first = end_turn (search c.merge.new.pool c.merge.new.arena) (search c.end_list.new.pool c.end_list.new.arena) c.args.self.odd c.end_list.ensures.uses c.end_list.ensures.others c.end_list.ensures.spare in
    let rest = beside (search c.merge.new.pool c.merge.new.arena) (search c.end_list.new.pool c.end_list.new.arena) (c.args.self.odd ∷ []) [] (c.args.lower.odd ∷ []) met.whole.held first in
    (one_held (search c.end_list.new.pool c.end_list.new.arena) c.args.lower.odd rest.held).1

pub returns-in-Err-clause-turn : goal.returns-in-Err-clause-turn
returns-in-Err-clause-turn g c =
    let two = evens_two (search c.args.pool.now c.args.arena.now) c.args.self.even c.args.self.odd c.args.lower.even c.args.lower.odd c.requires.held in
    let one = lost_turn (search c.args.pool.now c.args.arena.now) (search c.merge.new.pool c.merge.new.arena) c.args.self.even c.args.lower.even (c.in-Err.ensures.uses _ _ two.one two.two) c.in-Err.ensures.others (c.in-Err.ensures.spare _ _ two.one two.two) in
    let met = met_first (search c.args.pool.now c.args.arena.now) (search c.merge.new.pool c.merge.new.arena) c.args.self.even c.args.self.odd c.args.lower.even c.args.lower.odd [] c.requires.held one in
    let first = end_turn (search c.merge.new.pool c.merge.new.arena) (search c.end_list.new.pool c.end_list.new.arena) c.args.self.odd c.end_list.ensures.uses c.end_list.ensures.others c.end_list.ensures.spare in
    let rest = beside (search c.merge.new.pool c.merge.new.arena) (search c.end_list.new.pool c.end_list.new.arena) (c.args.self.odd ∷ []) [] (c.args.lower.odd ∷ []) met.whole.held first in
    let last = end_turn (search c.end_list.new.pool c.end_list.new.arena) (search c.end_list-in-Err.new.pool c.end_list-in-Err.new.arena) c.args.lower.odd c.end_list-in-Err.ensures.uses c.end_list-in-Err.ensures.others c.end_list-in-Err.ensures.spare in
    (turn_then (search c.args.pool.now c.args.arena.now) (search c.merge.new.pool c.merge.new.arena) (search c.end_list-in-Err.new.pool c.end_list-in-Err.new.arena) _ _ _ met.whole (turn_then (search c.merge.new.pool c.merge.new.arena) (search c.end_list.new.pool c.end_list.new.arena) (search c.end_list-in-Err.new.pool c.end_list-in-Err.new.arena) _ _ _ rest last)).swap

pub merge-requires-2-clause-live : goal.merge-requires-2-clause-live
merge-requires-2-clause-live g c =
    let two = evens_two (search c.args.pool.now c.args.arena.now) c.args.self.even c.args.self.odd c.args.lower.even c.args.lower.odd c.requires.held in
    let one = merge_turn (search c.args.pool.now c.args.arena.now) (search c.merge.new.pool c.merge.new.arena) c.args.self.even c.args.lower.even c.in-Ok.even two.both (c.in-Ok.ensures.uses _ _ two.one two.two) c.in-Ok.ensures.others (c.in-Ok.ensures.spare _ _ two.one two.two) c.in-Ok.ensures.live in
    let met = met_first (search c.args.pool.now c.args.arena.now) (search c.merge.new.pool c.merge.new.arena) c.args.self.even c.args.self.odd c.args.lower.even c.args.lower.odd (c.in-Ok.even ∷ []) c.requires.held one in
    (met.left.one, met.left.two)

pub merge-requires-2-clause-differ : goal.merge-requires-2-clause-differ
merge-requires-2-clause-differ g c =
    let two = evens_two (search c.args.pool.now c.args.arena.now) c.args.self.even c.args.self.odd c.args.lower.even c.args.lower.odd c.requires.held in
    let one = merge_turn (search c.args.pool.now c.args.arena.now) (search c.merge.new.pool c.merge.new.arena) c.args.self.even c.args.lower.even c.in-Ok.even two.both (c.in-Ok.ensures.uses _ _ two.one two.two) c.in-Ok.ensures.others (c.in-Ok.ensures.spare _ _ two.one two.two) c.in-Ok.ensures.live in
    let met = met_first (search c.args.pool.now c.args.arena.now) (search c.merge.new.pool c.merge.new.arena) c.args.self.even c.args.self.odd c.args.lower.even c.args.lower.odd (c.in-Ok.even ∷ []) c.requires.held one in
    met.left.apart

pub merge-requires-2-clause-meet : goal.merge-requires-2-clause-meet
merge-requires-2-clause-meet g c =
    let two = evens_two (search c.args.pool.now c.args.arena.now) c.args.self.even c.args.self.odd c.args.lower.even c.args.lower.odd c.requires.held in
    let one = merge_turn (search c.args.pool.now c.args.arena.now) (search c.merge.new.pool c.merge.new.arena) c.args.self.even c.args.lower.even c.in-Ok.even two.both (c.in-Ok.ensures.uses _ _ two.one two.two) c.in-Ok.ensures.others (c.in-Ok.ensures.spare _ _ two.one two.two) c.in-Ok.ensures.live in
    let met = met_first (search c.args.pool.now c.args.arena.now) (search c.merge.new.pool c.merge.new.arena) c.args.self.even c.args.self.odd c.args.lower.even c.args.lower.odd (c.in-Ok.even ∷ []) c.requires.held one in
    let b_is_open = open_beside c.args.p.now c.args.widths.now (c.args.node + 1) (parent_of c.args.p.now.tree.nodes c.args.node) true c.args.arena.now c.merge.new.arena c.args.pool.now c.merge.new.pool (c.args.self.even ∷ c.args.lower.even ∷ []) (c.in-Ok.even ∷ []) (c.args.self.odd ∷ c.args.lower.odd ∷ []) met.beside one c.args.self.odd (0, omega arith, refl)
    (record { exact = c.requires.upper.part.exact true; solved = c.requires.upper.solved true }) in
    let d_is_above = carried_beside c.args.p.now c.args.widths.now c.args.node 0 true (c.requires.lower.0 true) c.args.arena.now c.merge.new.arena c.args.pool.now c.merge.new.pool (c.args.self.even ∷ c.args.lower.even ∷ []) (c.in-Ok.even ∷ []) (c.args.self.odd ∷ c.args.lower.odd ∷ []) met.beside one c.args.lower.odd (1, omega arith, refl)
    (c.requires.lower.1 true) in
    can_meet c.args.p.now c.args.widths.now c.args.node true _ (slots_of c.merge.new.arena) _ _ c.requires.widths c.requires.below_root c.requires.node c.requires.live b_is_open d_is_above met.left.both

pub end_list-requires-in-Err-merge-clause-live : goal.end_list-requires-in-Err-merge-clause-live
end_list-requires-in-Err-merge-clause-live g c =
    let two = evens_two (search c.args.pool.now c.args.arena.now) c.args.self.even c.args.self.odd c.args.lower.even c.args.lower.odd c.requires.held in
    let one = merge_turn (search c.args.pool.now c.args.arena.now) (search c.merge.new.pool c.merge.new.arena) c.args.self.even c.args.lower.even c.in-Ok.even two.both (c.in-Ok.ensures.uses _ _ two.one two.two) c.in-Ok.ensures.others (c.in-Ok.ensures.spare _ _ two.one two.two) c.in-Ok.ensures.live in
    let met = met_first (search c.args.pool.now c.args.arena.now) (search c.merge.new.pool c.merge.new.arena) c.args.self.even c.args.self.odd c.args.lower.even c.args.lower.odd (c.in-Ok.even ∷ []) c.requires.held one in
    let last = lost_turn (search c.merge.new.pool c.merge.new.arena) (search c.merge-2.new.pool c.merge-2.new.arena) c.args.self.odd c.args.lower.odd (c.in-Err-merge.ensures.uses _ _ met.left.one met.left.two) c.in-Err-merge.ensures.others (c.in-Err-merge.ensures.spare _ _ met.left.one met.left.two) in
    let then = met_then (search c.merge.new.pool c.merge.new.arena) (search c.merge-2.new.pool c.merge-2.new.arena) c.in-Ok.even c.args.self.odd c.args.lower.odd [] met.whole.held last in
    (one_held (search c.merge-2.new.pool c.merge-2.new.arena) c.in-Ok.even then.whole.held).0

pub end_list-requires-in-Err-merge-clause-held : goal.end_list-requires-in-Err-merge-clause-held
end_list-requires-in-Err-merge-clause-held g c =
    let two = evens_two (search c.args.pool.now c.args.arena.now) c.args.self.even c.args.self.odd c.args.lower.even c.args.lower.odd c.requires.held in
    let one = merge_turn (search c.args.pool.now c.args.arena.now) (search c.merge.new.pool c.merge.new.arena) c.args.self.even c.args.lower.even c.in-Ok.even two.both (c.in-Ok.ensures.uses _ _ two.one two.two) c.in-Ok.ensures.others (c.in-Ok.ensures.spare _ _ two.one two.two) c.in-Ok.ensures.live in
    let met = met_first (search c.args.pool.now c.args.arena.now) (search c.merge.new.pool c.merge.new.arena) c.args.self.even c.args.self.odd c.args.lower.even c.args.lower.odd (c.in-Ok.even ∷ []) c.requires.held one in
    let last = lost_turn (search c.merge.new.pool c.merge.new.arena) (search c.merge-2.new.pool c.merge-2.new.arena) c.args.self.odd c.args.lower.odd (c.in-Err-merge.ensures.uses _ _ met.left.one met.left.two) c.in-Err-merge.ensures.others (c.in-Err-merge.ensures.spare _ _ met.left.one met.left.two) in
    let then = met_then (search c.merge.new.pool c.merge.new.arena) (search c.merge-2.new.pool c.merge-2.new.arena) c.in-Ok.even c.args.self.odd c.args.lower.odd [] met.whole.held last in
    (one_held (search c.merge-2.new.pool c.merge-2.new.arena) c.in-Ok.even then.whole.held).1

pub returns-in-Ok-merge-clause-turn : goal.returns-in-Ok-merge-clause-turn
returns-in-Ok-merge-clause-turn g c =
    let two = evens_two (search c.args.pool.now c.args.arena.now) c.args.self.even c.args.self.odd c.args.lower.even c.args.lower.odd c.requires.held in
    let one = merge_turn (search c.args.pool.now c.args.arena.now) (search c.merge.new.pool c.merge.new.arena) c.args.self.even c.args.lower.even c.in-Ok.even two.both (c.in-Ok.ensures.uses _ _ two.one two.two) c.in-Ok.ensures.others (c.in-Ok.ensures.spare _ _ two.one two.two) c.in-Ok.ensures.live in
    let met = met_first (search c.args.pool.now c.args.arena.now) (search c.merge.new.pool c.merge.new.arena) c.args.self.even c.args.self.odd c.args.lower.even c.args.lower.odd (c.in-Ok.even ∷ []) c.requires.held one in
    let last = merge_turn (search c.merge.new.pool c.merge.new.arena) (search c.merge-2.new.pool c.merge-2.new.arena) c.args.self.odd c.args.lower.odd c.in-Ok-merge.odd met.left.both (c.in-Ok-merge.ensures.uses _ _ met.left.one met.left.two) c.in-Ok-merge.ensures.others
    (c.in-Ok-merge.ensures.spare _ _ met.left.one met.left.two) c.in-Ok-merge.ensures.live in
    let then = met_then (search c.merge.new.pool c.merge.new.arena) (search c.merge-2.new.pool c.merge-2.new.arena) c.in-Ok.even c.args.self.odd c.args.lower.odd (c.in-Ok-merge.odd ∷ []) met.whole.held last in
    turn_then (search c.args.pool.now c.args.arena.now) (search c.merge.new.pool c.merge.new.arena) (search c.merge-2.new.pool c.merge-2.new.arena) _ _ _ met.whole then.whole

pub returns-in-Ok-merge-clause-open : goal.returns-in-Ok-merge-clause-open
returns-in-Ok-merge-clause-open g c =
    let two = evens_two (search c.args.pool.now c.args.arena.now) c.args.self.even c.args.self.odd c.args.lower.even c.args.lower.odd c.requires.held in
    let one = merge_turn (search c.args.pool.now c.args.arena.now) (search c.merge.new.pool c.merge.new.arena) c.args.self.even c.args.lower.even c.in-Ok.even two.both (c.in-Ok.ensures.uses _ _ two.one two.two) c.in-Ok.ensures.others (c.in-Ok.ensures.spare _ _ two.one two.two) c.in-Ok.ensures.live in
    let met = met_first (search c.args.pool.now c.args.arena.now) (search c.merge.new.pool c.merge.new.arena) c.args.self.even c.args.self.odd c.args.lower.even c.args.lower.odd (c.in-Ok.even ∷ []) c.requires.held one in
    let b_is_open = open_beside c.args.p.now c.args.widths.now (c.args.node + 1) (parent_of c.args.p.now.tree.nodes c.args.node) true c.args.arena.now c.merge.new.arena c.args.pool.now c.merge.new.pool (c.args.self.even ∷ c.args.lower.even ∷ []) (c.in-Ok.even ∷ []) (c.args.self.odd ∷ c.args.lower.odd ∷ []) met.beside one c.args.self.odd (0, omega arith, refl)
    (record { exact = c.requires.upper.part.exact true; solved = c.requires.upper.solved true }) in
    let d_is_above = carried_beside c.args.p.now c.args.widths.now c.args.node 0 true (c.requires.lower.0 true) c.args.arena.now c.merge.new.arena c.args.pool.now c.merge.new.pool (c.args.self.even ∷ c.args.lower.even ∷ []) (c.in-Ok.even ∷ []) (c.args.self.odd ∷ c.args.lower.odd ∷ []) met.beside one c.args.lower.odd (1, omega arith, refl)
    (c.requires.lower.1 true) in
    let b_is = other_items (search c.args.pool.now c.args.arena.now) (search c.merge.new.pool c.merge.new.arena) (c.args.self.even ∷ c.args.lower.even ∷ []) (c.in-Ok.even ∷ []) (c.args.self.odd ∷ c.args.lower.odd ∷ []) met.beside one c.args.self.odd (0, omega arith, refl) in
    let d_is = other_items (search c.args.pool.now c.args.arena.now) (search c.merge.new.pool c.merge.new.arena) (c.args.self.even ∷ c.args.lower.even ∷ []) (c.in-Ok.even ∷ []) (c.args.self.odd ∷ c.args.lower.odd ∷ []) met.beside one c.args.lower.odd (1, omega arith, refl) in
    let last = merge_turn (search c.merge.new.pool c.merge.new.arena) (search c.merge-2.new.pool c.merge-2.new.arena) c.args.self.odd c.args.lower.odd c.in-Ok-merge.odd met.left.both (c.in-Ok-merge.ensures.uses _ _ met.left.one met.left.two) c.in-Ok-merge.ensures.others
    (c.in-Ok-merge.ensures.spare _ _ met.left.one met.left.two) c.in-Ok-merge.ensures.live in
    let then = met_then (search c.merge.new.pool c.merge.new.arena) (search c.merge-2.new.pool c.merge-2.new.arena) c.in-Ok.even c.args.self.odd c.args.lower.odd (c.in-Ok-merge.odd ∷ []) met.whole.held last in
    let e_is = other_items (search c.merge.new.pool c.merge.new.arena) (search c.merge-2.new.pool c.merge-2.new.arena) (c.args.self.odd ∷ c.args.lower.odd ∷ []) (c.in-Ok-merge.odd ∷ []) (c.in-Ok.even ∷ []) then.beside last c.in-Ok.even (0, omega arith, refl) in
    let evens = c.in-Ok.ensures.merge _ _ two.one two.two in
    let odds = c.in-Ok-merge.ensures.merge _ _ met.left.one met.left.two in
    let e_solved = met_solved c.args.p.now c.args.widths.now c.args.node false (made_of c.args.arena.now) (made_of c.merge.new.arena) _ _ _ c.requires.widths.are c.requires.below_root c.requires.node c.requires.live
    (c.requires.upper.solved false) (c.requires.lower.1 false).solved evens.solutions in
    let o_solved = met_solved c.args.p.now c.args.widths.now c.args.node true (made_of c.merge.new.arena) (made_of c.merge-2.new.arena) _ _ _ c.requires.widths.are c.requires.below_root c.requires.node c.requires.live
    b_is_open.solved d_is_above.solved odds.solutions in
    both_met c.args.p.now c.args.widths.now c.args.node c.args.arena.now c.merge-2.new.arena c.args.pool.now c.merge-2.new.pool c.args.self c.args.lower (record { even = c.in-Ok.even; odd = c.in-Ok-merge.odd })
    c.requires.below_root c.requires.node c.requires.live c.requires.upper c.requires.lower
    (exact_as (Meets (pairs_of (items_of c.args.pool.now c.args.self.even)) (pairs_of (items_of c.args.pool.now c.args.lower.even))) _ _ (sym e_is) evens.pairs)
    (rw (b_is, d_is) at odds.pairs)
    (solved_beside (IsWideOpenSolutionOf c.args.p.now c.args.widths.now false (fork_from c.args.p.now (parent_of c.args.p.now.tree.nodes c.args.node) c.args.node)) c.merge.new.arena c.merge-2.new.arena c.merge.new.pool c.merge-2.new.pool (c.args.self.odd ∷ c.args.lower.odd ∷ []) (c.in-Ok-merge.odd ∷ []) (c.in-Ok.even ∷ []) then.beside last c.in-Ok.even (0, omega arith, refl) e_solved)
    o_solved

pub returns-in-Ok-merge-clause-few : goal.returns-in-Ok-merge-clause-few
returns-in-Ok-merge-clause-few g c =
    let two = evens_two (search c.args.pool.now c.args.arena.now) c.args.self.even c.args.self.odd c.args.lower.even c.args.lower.odd c.requires.held in
    let one = merge_turn (search c.args.pool.now c.args.arena.now) (search c.merge.new.pool c.merge.new.arena) c.args.self.even c.args.lower.even c.in-Ok.even two.both (c.in-Ok.ensures.uses _ _ two.one two.two) c.in-Ok.ensures.others (c.in-Ok.ensures.spare _ _ two.one two.two) c.in-Ok.ensures.live in
    let met = met_first (search c.args.pool.now c.args.arena.now) (search c.merge.new.pool c.merge.new.arena) c.args.self.even c.args.self.odd c.args.lower.even c.args.lower.odd (c.in-Ok.even ∷ []) c.requires.held one in
    let b_is = other_items (search c.args.pool.now c.args.arena.now) (search c.merge.new.pool c.merge.new.arena) (c.args.self.even ∷ c.args.lower.even ∷ []) (c.in-Ok.even ∷ []) (c.args.self.odd ∷ c.args.lower.odd ∷ []) met.beside one c.args.self.odd (0, omega arith, refl) in
    let d_is = other_items (search c.args.pool.now c.args.arena.now) (search c.merge.new.pool c.merge.new.arena) (c.args.self.even ∷ c.args.lower.even ∷ []) (c.in-Ok.even ∷ []) (c.args.self.odd ∷ c.args.lower.odd ∷ []) met.beside one c.args.lower.odd (1, omega arith, refl) in
    let last = merge_turn (search c.merge.new.pool c.merge.new.arena) (search c.merge-2.new.pool c.merge-2.new.arena) c.args.self.odd c.args.lower.odd c.in-Ok-merge.odd met.left.both (c.in-Ok-merge.ensures.uses _ _ met.left.one met.left.two) c.in-Ok-merge.ensures.others
    (c.in-Ok-merge.ensures.spare _ _ met.left.one met.left.two) c.in-Ok-merge.ensures.live in
    let then = met_then (search c.merge.new.pool c.merge.new.arena) (search c.merge-2.new.pool c.merge-2.new.arena) c.in-Ok.even c.args.self.odd c.args.lower.odd (c.in-Ok-merge.odd ∷ []) met.whole.held last in
    let e_is = other_items (search c.merge.new.pool c.merge.new.arena) (search c.merge-2.new.pool c.merge-2.new.arena) (c.args.self.odd ∷ c.args.lower.odd ∷ []) (c.in-Ok-merge.odd ∷ []) (c.in-Ok.even ∷ []) then.beside last c.in-Ok.even (0, omega arith, refl) in
    let evens = c.in-Ok.ensures.merge _ _ two.one two.two in
    let odds = c.in-Ok-merge.ensures.merge _ _ met.left.one met.left.two in
    let even_few : length (items_of c.merge-2.new.pool c.in-Ok.even) ≤ length (items_of c.args.pool.now c.args.self.even) + length (items_of c.args.pool.now c.args.lower.even)
    = omega (arith, ap (λ (l : Candidates). length l) e_is, evens.few) in
    let odd_few : length (items_of c.merge-2.new.pool c.in-Ok-merge.odd) ≤ length (items_of c.args.pool.now c.args.self.odd) + length (items_of c.args.pool.now c.args.lower.odd)
    = omega (arith, ap (λ (l : Candidates). length l) b_is, ap (λ (l : Candidates). length l) d_is, odds.few) in
    λ odd. elim (cases_Bool odd) [ inl t ↦ rw t odd_few | inr f ↦ rw f even_few ]

pub returns-in-Err-merge-clause-turn : goal.returns-in-Err-merge-clause-turn
returns-in-Err-merge-clause-turn g c =
    let two = evens_two (search c.args.pool.now c.args.arena.now) c.args.self.even c.args.self.odd c.args.lower.even c.args.lower.odd c.requires.held in
    let one = merge_turn (search c.args.pool.now c.args.arena.now) (search c.merge.new.pool c.merge.new.arena) c.args.self.even c.args.lower.even c.in-Ok.even two.both (c.in-Ok.ensures.uses _ _ two.one two.two) c.in-Ok.ensures.others (c.in-Ok.ensures.spare _ _ two.one two.two) c.in-Ok.ensures.live in
    let met = met_first (search c.args.pool.now c.args.arena.now) (search c.merge.new.pool c.merge.new.arena) c.args.self.even c.args.self.odd c.args.lower.even c.args.lower.odd (c.in-Ok.even ∷ []) c.requires.held one in
    let last = lost_turn (search c.merge.new.pool c.merge.new.arena) (search c.merge-2.new.pool c.merge-2.new.arena) c.args.self.odd c.args.lower.odd (c.in-Err-merge.ensures.uses _ _ met.left.one met.left.two) c.in-Err-merge.ensures.others (c.in-Err-merge.ensures.spare _ _ met.left.one met.left.two) in
    let then = met_then (search c.merge.new.pool c.merge.new.arena) (search c.merge-2.new.pool c.merge-2.new.arena) c.in-Ok.even c.args.self.odd c.args.lower.odd [] met.whole.held last in
    let end = end_turn (search c.merge-2.new.pool c.merge-2.new.arena) (search c.end_list-in-Err-merge.new.pool c.end_list-in-Err-merge.new.arena) c.in-Ok.even c.end_list-in-Err-merge.ensures.uses c.end_list-in-Err-merge.ensures.others c.end_list-in-Err-merge.ensures.spare in
    (turn_then (search c.args.pool.now c.args.arena.now) (search c.merge.new.pool c.merge.new.arena) (search c.end_list-in-Err-merge.new.pool c.end_list-in-Err-merge.new.arena) _ _ _ met.whole (turn_then (search c.merge.new.pool c.merge.new.arena) (search c.merge-2.new.pool c.merge-2.new.arena) (search c.end_list-in-Err-merge.new.pool c.end_list-in-Err-merge.new.arena) _ _ _ then.whole end)).swap
