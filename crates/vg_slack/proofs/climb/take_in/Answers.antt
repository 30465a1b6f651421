use Rattle.std.proofs.Common.{◌++◌, []}
use Rattle.sol_arena.specs.Arenas.{slots_of, made_of}
use Rattle.cand_turns.specs.Swaps.{search, IsSwap, IsTurn}
use Rattle.cand_turns.specs.Branches.{lists_of}
use Rattle.cand_turns.specs.Parts.{lists_in}
use Rattle.cand_turns.proofs.PartLemmas.{err_answers}
use Rattle.cand_turns.proofs.SwapLemmas.{swap_then, turn_then}
use Rattle.vg_slack.proofs.ClimbLemmas.{coming, is_dead, has_load, upper_held, dead_turn, dead_so_far}
use Rattle.vg_slack.proofs.ClimbLemmas.{branch_held, node_live, live_whole, closed_turn, upper_beside, live_so_far, lost}
use Rattle.vg_slack.proofs.KeptLemmas.{dead_kept}
use Rattle.vg_slack.proofs.climb.take_in.Goals as goal

pub take_dead-requires-clause-dead : goal.take_dead-requires-clause-dead
take_dead-requires-clause-dead g c =
    let at = coming c.args.arena.now c.requires.below_root c.requires.node c.requires.held c.requires.upper c.requires.whole in
    is_dead at c.in-Dead.c c.in-Dead.is

pub take_dead-requires-clause-load : goal.take_dead-requires-clause-load
take_dead-requires-clause-load g c =
    let at = coming c.args.arena.now c.requires.below_root c.requires.node c.requires.held c.requires.upper c.requires.whole in
    has_load at c.in-Dead.c c.in-Dead.is

pub close-requires-clause-held : goal.close-requires-clause-held
close-requires-clause-held g c =
    let at = coming c.args.arena.now c.requires.below_root c.requires.node c.requires.held c.requires.upper c.requires.whole in
    branch_held at c.in-Live.branch c.in-Live.is

pub take_live-requires-clause-live : goal.take_live-requires-clause-live
take_live-requires-clause-live g c =
    let at = coming c.args.arena.now c.requires.below_root c.requires.node c.requires.held c.requires.upper c.requires.whole in
    node_live c.args.p.now c.args.widths.now c.args.node (made_of c.args.arena.now) c.args.pool.now c.in-Live.branch c.requires.node (live_whole at c.in-Live.branch c.in-Live.is)

pub take_live-requires-clause-held : goal.take_live-requires-clause-held
take_live-requires-clause-held g c =
    let at = coming c.args.arena.now c.requires.below_root c.requires.node c.requires.held c.requires.upper c.requires.whole in
    (closed_turn at c.in-Live.branch c.in-Live.is c.close.new.arena c.close.new.pool c.in-Ok.branch c.in-Ok.ensures.turn).held

pub take_live-requires-clause-part : goal.take_live-requires-clause-part
take_live-requires-clause-part g c =
    let at = coming c.args.arena.now c.requires.below_root c.requires.node c.requires.held c.requires.upper c.requires.whole in
    (upper_beside at c.in-Live.branch c.in-Live.is c.close.new.arena c.close.new.pool c.in-Ok.branch c.in-Ok.ensures.turn).part

pub returns-in_err-taken-in-Ok-clause-turn : goal.returns-in_err-taken-in-Ok-clause-turn
returns-in_err-taken-in-Ok-clause-turn g c =
    let at = coming c.args.arena.now c.requires.below_root c.requires.node c.requires.held c.requires.upper c.requires.whole in
    err_answers c.from_residual.result
    (λ taken. IsTurn (search c.args.pool.now c.args.arena.now) (lists_in c.args.upper ++ lists_in c.args.part)
    (search c.take_live.new.pool c.take_live.new.arena) (lists_in taken))
    (IsSwap (search c.args.pool.now c.args.arena.now) (lists_in c.args.upper ++ lists_in c.args.part)
    (search c.take_live.new.pool c.take_live.new.arena) [])
    c.from_residual.ensures.0
    (swap_then (search c.args.pool.now c.args.arena.now) (search c.close.new.pool c.close.new.arena) (search c.take_live.new.pool c.take_live.new.arena)
    (lists_in c.args.upper ++ lists_in c.args.part) (lists_in c.args.upper ++ lists_of c.in-Ok.branch) []
    (closed_turn at c.in-Live.branch c.in-Live.is c.close.new.arena c.close.new.pool c.in-Ok.branch c.in-Ok.ensures.turn).swap
    c.in_err-taken-in-Ok.ensures.turn)

pub give_up_part-requires : goal.give_up_part-requires
give_up_part-requires g c =
    let at = coming c.args.arena.now c.requires.below_root c.requires.node c.requires.held c.requires.upper c.requires.whole in
    record { held = (lost at c.in-Live.branch c.in-Live.is (search c.close.new.pool c.close.new.arena) c.in-Err.ensures.turn).held }

pub returns-in-Dead-clause-turn : goal.returns-in-Dead-clause-turn
returns-in-Dead-clause-turn g c =
    let at = coming c.args.arena.now c.requires.below_root c.requires.node c.requires.held c.requires.upper c.requires.whole in
    dead_turn at c.in-Dead.c c.in-Dead.is (search c.take_dead.new.pool c.args.arena.now) c.take_dead.result
    (c.take_dead.ensures.turn (slots_of c.args.arena.now) (upper_held at c.in-Dead.c c.in-Dead.is))

pub returns-in-Dead-clause-part : goal.returns-in-Dead-clause-part
returns-in-Dead-clause-part g c =
    let at = coming c.args.arena.now c.requires.below_root c.requires.node c.requires.held c.requires.upper c.requires.whole in
    dead_so_far at c.in-Dead.c c.in-Dead.is c.take_dead.new.pool c.take_dead.result
    (c.take_dead.ensures.part (made_of c.args.arena.now) c.requires.upper.part) c.take_dead.ensures.same

pub returns-in-Dead-clause-kept : goal.returns-in-Dead-clause-kept
returns-in-Dead-clause-kept g c = λ low.
    let at = coming c.args.arena.now c.requires.below_root c.requires.node c.requires.held c.requires.upper c.requires.whole in
    dead_kept c.args.p.now c.args.widths.now c.args.node c.args.lists.now c.requires.none (is_dead at c.in-Dead.c c.in-Dead.is)

pub returns-in_ok-taken-in-Ok-clause-turn : goal.returns-in_ok-taken-in-Ok-clause-turn
returns-in_ok-taken-in-Ok-clause-turn g c =
    let at = coming c.args.arena.now c.requires.below_root c.requires.node c.requires.held c.requires.upper c.requires.whole in
    turn_then (search c.args.pool.now c.args.arena.now) (search c.close.new.pool c.close.new.arena) (search c.take_live.new.pool c.take_live.new.arena) _ _ _
    (closed_turn at c.in-Live.branch c.in-Live.is c.close.new.arena c.close.new.pool c.in-Ok.branch c.in-Ok.ensures.turn)
    c.in_ok-taken-in-Ok.ensures.turn

pub returns-in_ok-taken-in-Ok-clause-part : goal.returns-in_ok-taken-in-Ok-clause-part
returns-in_ok-taken-in-Ok-clause-part g c =
    let at = coming c.args.arena.now c.requires.below_root c.requires.node c.requires.held c.requires.upper c.requires.whole in
    live_so_far at c.in-Live.branch c.in-Live.is c.close.new.arena c.close.new.pool c.in-Ok.branch c.in-Ok.ensures.turn
    c.take_live.new.arena c.take_live.new.pool c.in_ok-taken-in-Ok.taken c.in-Ok.ensures.few c.in_ok-taken-in-Ok.ensures.part c.in_ok-taken-in-Ok.ensures.few

pub returns-in-Err-clause-turn : goal.returns-in-Err-clause-turn
returns-in-Err-clause-turn g c =
    let at = coming c.args.arena.now c.requires.below_root c.requires.node c.requires.held c.requires.upper c.requires.whole in
    swap_then (search c.args.pool.now c.args.arena.now) (search c.close.new.pool c.close.new.arena) (search c.give_up_part.new.pool c.give_up_part.new.arena) _ _ _
    (lost at c.in-Live.branch c.in-Live.is (search c.close.new.pool c.close.new.arena) c.in-Err.ensures.turn).swap
    c.give_up_part.ensures.swap
