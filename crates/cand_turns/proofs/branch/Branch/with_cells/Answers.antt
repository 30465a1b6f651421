use Rattle.std.proofs.Common.{◌+◌, [], ◌∷◌, true, false, refl, arith}
use Rattle.sol_arena.specs.Arenas.{slots_of, made_of}
use Rattle.cand_turns.specs.Swaps.{search}
use Rattle.cand_turns.specs.Branches.{classes_in, list_of}
use Rattle.cand_turns.proofs.SwapLemmas.{turn_then, swap_then}
use Rattle.cand_turns.proofs.BranchLemmas.{one_held, end_turn}
use Rattle.cand_turns.proofs.AddLemmas.{grown, two_adds, still_held, add_lost}
use Rattle.cand_turns.proofs.CellLemmas.{open_list}
use Rattle.cand_turns.proofs.MeetLemmas.{open_modest}
use Rattle.cand_turns.proofs.ClassLemmas.{class_live, class_uses, uses_after, open_after, one_less, both_made, both_less, grown_held, grown_open, grown_best}
use Rattle.cand_turns.proofs.branch.Branch.with_cells.Goals as goal

pub find-requires-clause-live : goal.find-requires-clause-live
find-requires-clause-live g c =
    let held = grown_held c.args.p.now c.args.widths.now c.args.node c.args.self.now c.args.arena.now c.args.pool.now c.reserve.new.self c.requires.held c.reserve.ensures.others c.reserve.ensures.more in
    λ odd. class_live (search c.reserve.new.self c.args.arena.now) c.args.self.now odd (list_of c.args.self.now odd) refl held

pub find-requires-clause-rising : goal.find-requires-clause-rising
find-requires-clause-rising g c =
    let opens = grown_open c.args.p.now c.args.widths.now c.args.node c.args.self.now c.args.arena.now c.args.pool.now c.reserve.new.self c.requires.held c.reserve.ensures.others c.reserve.ensures.more c.requires.«open» in
    λ odd. (opens.part.exact odd).rising

pub find-requires-clause-modest : goal.find-requires-clause-modest
find-requires-clause-modest g c =
    let opens = grown_open c.args.p.now c.args.widths.now c.args.node c.args.self.now c.args.arena.now c.args.pool.now c.reserve.new.self c.requires.held c.reserve.ensures.others c.reserve.ensures.more c.requires.«open» in
    λ odd. open_modest c.args.p.now c.args.widths.now (c.args.node + 1) c.args.node odd (classes_in c.reserve.new.self c.args.self.now odd) c.requires.widths c.requires.node (opens.part.exact odd)

pub add_at-requires-clause-found : goal.add_at-requires-clause-found
add_at-requires-clause-found g c =
    let held = grown_held c.args.p.now c.args.widths.now c.args.node c.args.self.now c.args.arena.now c.args.pool.now c.reserve.new.self c.requires.held c.reserve.ensures.others c.reserve.ensures.more in
    let opens = grown_open c.args.p.now c.args.widths.now c.args.node c.args.self.now c.args.arena.now c.args.pool.now c.reserve.new.self c.requires.held c.reserve.ensures.others c.reserve.ensures.more c.requires.«open» in (
      false,
      classes_in c.reserve.new.self c.args.self.now,
      record { by_buffers = c.in_ok-find.ensures.found.of_even; by_inverters = c.in_ok-find.ensures.found.of_odd },
      λ o. (
        class_uses (search c.reserve.new.self c.args.arena.now) c.args.self.now o (list_of c.args.self.now o) refl held,
        open_list c.args.p.now c.args.widths.now c.args.node (made_of c.args.arena.now) (classes_in c.reserve.new.self c.args.self.now) o opens,
      ),
    )

pub add_at-requires-2-clause-room : goal.add_at-requires-2-clause-room
add_at-requires-2-clause-room g c =
    omega (arith, c.in_ok-reserve.ensures.room, c.len.ensures, one_less (search c.reserve.new.self c.args.arena.now) (search c.add_at.new.pool c.add_at.new.arena) c.in_ok-list.list c.in_ok-list.ensures.turn, c.in_ok-list.ensures.few)

pub add_at-requires-2-clause-found : goal.add_at-requires-2-clause-found
add_at-requires-2-clause-found g c =
    let held = grown_held c.args.p.now c.args.widths.now c.args.node c.args.self.now c.args.arena.now c.args.pool.now c.reserve.new.self c.requires.held c.reserve.ensures.others c.reserve.ensures.more in
    let opens = grown_open c.args.p.now c.args.widths.now c.args.node c.args.self.now c.args.arena.now c.args.pool.now c.reserve.new.self c.requires.held c.reserve.ensures.others c.reserve.ensures.more c.requires.«open» in (
      true,
      classes_in c.reserve.new.self c.args.self.now,
      record { by_buffers = c.in_ok-find.ensures.found.of_odd; by_inverters = c.in_ok-find.ensures.found.of_even },
      λ o. (
        uses_after c.args.p.now c.args.widths.now c.args.node c.args.self.now c.args.arena.now c.add_at.new.arena c.reserve.new.self c.add_at.new.pool (c.in_ok-list.list ∷ []) held c.in_ok-list.ensures.turn o,
        open_after c.args.p.now c.args.widths.now c.args.node c.args.self.now c.args.arena.now c.add_at.new.arena c.reserve.new.self c.add_at.new.pool (c.in_ok-list.list ∷ []) held c.in_ok-list.ensures.turn o opens,
      ),
    )

pub end_list-requires-clause-live : goal.end_list-requires-clause-live
end_list-requires-clause-live g c =
    (one_held (search c.add_at-2.new.pool c.add_at-2.new.arena) c.in_ok-list.list
    (still_held (search c.add_at.new.pool c.add_at.new.arena) (search c.add_at-2.new.pool c.add_at-2.new.arena) c.in_ok-list.list c.in_ok-list.ensures.turn.held c.in-Err.ensures.turn).held).0

pub end_list-requires-clause-held : goal.end_list-requires-clause-held
end_list-requires-clause-held g c =
    (one_held (search c.add_at-2.new.pool c.add_at-2.new.arena) c.in_ok-list.list
    (still_held (search c.add_at.new.pool c.add_at.new.arena) (search c.add_at-2.new.pool c.add_at-2.new.arena) c.in_ok-list.list c.in_ok-list.ensures.turn.held c.in-Err.ensures.turn).held).1

pub returns-in-Ok-clause-turn : goal.returns-in-Ok-clause-turn
returns-in-Ok-clause-turn g c =
    turn_then (search c.args.pool.now c.args.arena.now) (search c.reserve.new.self c.args.arena.now) (search c.add_at-2.new.pool c.add_at-2.new.arena) [] [] (c.in_ok-list.list ∷ c.in-Ok.other ∷ [])
    (grown c.args.pool.now c.reserve.new.self (slots_of c.args.arena.now) c.reserve.ensures.others c.reserve.ensures.more)
    (two_adds (search c.reserve.new.self c.args.arena.now) (search c.add_at.new.pool c.add_at.new.arena) (search c.add_at-2.new.pool c.add_at-2.new.arena)
    c.in_ok-list.list c.in-Ok.other c.in_ok-list.ensures.turn c.in-Ok.ensures.turn)

pub returns-in-Ok-clause-best : goal.returns-in-Ok-clause-best
returns-in-Ok-clause-best g c = λ odd.
    let held = grown_held c.args.p.now c.args.widths.now c.args.node c.args.self.now c.args.arena.now c.args.pool.now c.reserve.new.self c.requires.held c.reserve.ensures.others c.reserve.ensures.more in
    let opens = grown_open c.args.p.now c.args.widths.now c.args.node c.args.self.now c.args.arena.now c.args.pool.now c.reserve.new.self c.requires.held c.reserve.ensures.others c.reserve.ensures.more c.requires.«open» in
    let evens = c.in_ok-list.ensures.best false (classes_in c.reserve.new.self c.args.self.now)
    (record { by_buffers = c.in_ok-find.ensures.found.of_even; by_inverters = c.in_ok-find.ensures.found.of_odd })
    (λ o. open_list c.args.p.now c.args.widths.now c.args.node (made_of c.args.arena.now) (classes_in c.reserve.new.self c.args.self.now) o opens) in
    let odds = c.in-Ok.ensures.best true (classes_in c.reserve.new.self c.args.self.now)
    (record { by_buffers = c.in_ok-find.ensures.found.of_odd; by_inverters = c.in_ok-find.ensures.found.of_even })
    (λ o. open_after c.args.p.now c.args.widths.now c.args.node c.args.self.now c.args.arena.now c.add_at.new.arena c.reserve.new.self c.add_at.new.pool (c.in_ok-list.list ∷ []) held c.in_ok-list.ensures.turn o opens) in
    grown_best c.args.p.now c.args.widths.now c.args.node c.args.self.now c.args.arena.now c.args.pool.now c.reserve.new.self c.requires.held c.reserve.ensures.others c.reserve.ensures.more odd (made_of c.add_at-2.new.arena) (classes_in c.add_at-2.new.pool (record { even = c.in_ok-list.list; odd = c.in-Ok.other }) odd)
    (both_made c.args.p.now c.args.widths.now c.args.node c.args.self.now c.reserve.new.self c.add_at.new.arena c.add_at-2.new.arena c.add_at.new.pool c.add_at-2.new.pool
    c.in_ok-list.list c.in-Ok.other c.in_ok-list.ensures.turn.held c.in-Ok.ensures.turn evens odds odd)

pub returns-in-Ok-clause-few : goal.returns-in-Ok-clause-few
returns-in-Ok-clause-few g c =
    both_less c.args.p.now c.args.widths.now c.args.node c.args.self.now c.reserve.new.self c.add_at.new.arena c.add_at-2.new.arena c.add_at.new.pool c.add_at-2.new.pool
    c.in_ok-list.list c.in-Ok.other c.in_ok-list.ensures.turn.held c.in-Ok.ensures.turn c.in_ok-list.ensures.few c.in-Ok.ensures.few

pub returns-in-Err-clause-turn : goal.returns-in-Err-clause-turn
returns-in-Err-clause-turn g c =
    swap_then (search c.args.pool.now c.args.arena.now) (search c.reserve.new.self c.args.arena.now) (search c.end_list.new.pool c.end_list.new.arena) [] [] []
    (grown c.args.pool.now c.reserve.new.self (slots_of c.args.arena.now) c.reserve.ensures.others c.reserve.ensures.more).swap
    (add_lost (search c.reserve.new.self c.args.arena.now) (search c.add_at.new.pool c.add_at.new.arena) (search c.add_at-2.new.pool c.add_at-2.new.arena) (search c.end_list.new.pool c.end_list.new.arena)
    c.in_ok-list.list c.in_ok-list.ensures.turn c.in-Err.ensures.turn
    (end_turn (search c.add_at-2.new.pool c.add_at-2.new.arena) (search c.end_list.new.pool c.end_list.new.arena) c.in_ok-list.list c.end_list.ensures.uses c.end_list.ensures.others c.end_list.ensures.spare))
