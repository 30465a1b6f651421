use Rattle.std.proofs.Common.{◌≡◌, ◌+◌, ◌≤◌, ◌^◌, List, map, length, sym, ap, ◌∙◌, subst, arith, None}
use Rattle.std.proofs.lemmas.List.{length-map}
use Rattle.std.specs.List.{All}
use Rattle.sol_arena.specs.Arenas.{slots_of, made_of}
use Rattle.sol_arena.specs.Meanings.{cells_of}
use Rattle.sol_arena.specs.Slots.{IsLive as IsLiveSolution}
use Rattle.cand_pool.specs.Candidates.{Candidate, Candidates}
use Rattle.cand_pool.specs.Pools.{items_of}
use Rattle.vg_convex.specs.declared.work.Made.{Made as Result}
use Rattle.cand_turns.specs.Swaps.{search}
use Rattle.cand_turns.specs.Widened.{chosen_for}
use Rattle.cand_turns.proofs.BranchLemmas.{one_held}
use Rattle.cand_turns.proofs.PartLemmas.{err_answers}
use Rattle.cand_turns.proofs.WidenLemmas.{grown_items, grown_live, results_live, results_bare, widened_turn, widened_chosen, widened_lost}
use Rattle.cand_turns.proofs.carry.widened.Goals as goal

pub read-requires-clause-live : goal.read-requires-clause-live
read-requires-clause-live g c =
    grown_live c.args.pool.now c.reserve.new.self (slots_of c.args.arena.now) c.args.from.now c.requires.held c.reserve.ensures.others c.reserve.ensures.more

pub read-requires-clause-modest : goal.read-requires-clause-modest
read-requires-clause-modest g c =
    subst (λ (xs : Candidates). All (λ (x : Candidate). x.c + c.args.added ≤ 10 ^ 11) xs)
    (sym (grown_items c.args.pool.now c.reserve.new.self (slots_of c.args.arena.now) c.args.from.now c.requires.held c.reserve.ensures.others c.reserve.ensures.more)) c.requires.modest

pub list_of-requires-clause-room : goal.list_of-requires-clause-room
list_of-requires-clause-room g c =
    let same = grown_items c.args.pool.now c.reserve.new.self (slots_of c.args.arena.now) c.args.from.now c.requires.held c.reserve.ensures.others c.reserve.ensures.more in
    let results_are = c.deref.ensures.value ∙ c.in_ok-read.ensures ∙ ap (map (chosen_for c.args.row c.args.added)) same in
    omega (
      arith,
      c.in_ok-reserve.ensures.room,
      c.len-number.ensures (items_of c.args.pool.now c.args.from.now) (one_held (search c.args.pool.now c.args.arena.now) c.args.from.now c.requires.held).0,
      ap (λ (rs : List Result). length rs) results_are,
      length-map (items_of c.args.pool.now c.args.from.now) (chosen_for c.args.row c.args.added),
    )

pub list_of-requires-clause-live : goal.list_of-requires-clause-live
list_of-requires-clause-live g c =
    let same = grown_items c.args.pool.now c.reserve.new.self (slots_of c.args.arena.now) c.args.from.now c.requires.held c.reserve.ensures.others c.reserve.ensures.more in
    let results_are = c.deref.ensures.value ∙ c.in_ok-read.ensures ∙ ap (map (chosen_for c.args.row c.args.added)) same in
    subst (λ (rs : List Result). All (λ (r : Result). IsLiveSolution (made_of c.args.arena.now) r.tag) rs) (sym results_are)
    (results_live (made_of c.args.arena.now) c.args.site c.args.row c.args.added (items_of c.args.pool.now c.args.from.now) c.requires.bare)

pub list_of-requires-clause-bare : goal.list_of-requires-clause-bare
list_of-requires-clause-bare g c =
    let same = grown_items c.args.pool.now c.reserve.new.self (slots_of c.args.arena.now) c.args.from.now c.requires.held c.reserve.ensures.others c.reserve.ensures.more in
    let results_are = c.deref.ensures.value ∙ c.in_ok-read.ensures ∙ ap (map (chosen_for c.args.row c.args.added)) same in
    subst (λ (rs : List Result). All (λ (r : Result). cells_of (made_of c.args.arena.now) r.tag c.args.site ≡ None) rs) (sym results_are)
    (results_bare (made_of c.args.arena.now) c.args.site c.args.row c.args.added (items_of c.args.pool.now c.args.from.now) c.requires.bare)

pub returns-in_err-list-clause-turn : goal.returns-in_err-list-clause-turn
returns-in_err-list-clause-turn g c =
    err_answers c.from_residual-in_err-list.result _ _ c.from_residual-in_err-list.ensures.0
    (widened_lost c.args.arena.now c.list_of.new.arena c.args.pool.now c.reserve.new.self c.list_of.new.pool c.reserve.ensures.others c.reserve.ensures.more
    c.in_err-list.ensures.others c.in_err-list.ensures.spare c.in_err-list.ensures.restored)

pub returns-clause-turn : goal.returns-clause-turn
returns-clause-turn g c =
    let (zs, added, with) = c.in_ok-list.ensures.added in
    widened_turn c.args.arena.now c.list_of.new.arena c.args.pool.now c.reserve.new.self c.list_of.new.pool c.in_ok-list.list zs c.reserve.ensures.others c.reserve.ensures.more added

pub returns-clause-chosen : goal.returns-clause-chosen
returns-clause-chosen g c =
    let same = grown_items c.args.pool.now c.reserve.new.self (slots_of c.args.arena.now) c.args.from.now c.requires.held c.reserve.ensures.others c.reserve.ensures.more in
    let results_are = c.deref.ensures.value ∙ c.in_ok-read.ensures ∙ ap (map (chosen_for c.args.row c.args.added)) same in
    let (zs, added, with) = c.in_ok-list.ensures.added in
    widened_chosen c.args.arena.now c.list_of.new.arena c.args.pool.now c.reserve.new.self c.list_of.new.pool c.in_ok-list.list zs c.reserve.ensures.others c.reserve.ensures.more added
    c.args.site c.args.row c.args.added c.deref.result.now (items_of c.args.pool.now c.args.from.now) results_are with
