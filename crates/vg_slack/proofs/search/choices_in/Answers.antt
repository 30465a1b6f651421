use Rattle.std.proofs.Common.{[]}
use Rattle.sol_arena.specs.Arenas.{slots_of, made_of}
use Rattle.cand_turns.specs.Swaps.{search}
use Rattle.cand_turns.proofs.SwapLemmas.{swap_then}
use Rattle.vg_slack.specs.Climbs.{all_lists}
use Rattle.vg_slack.proofs.ClimbLemmas.{all_parts}
use Rattle.vg_slack.proofs.KeptLemmas.{none_kept, if_ok}
use Rattle.vg_slack.proofs.PartsLemmas.{swap_restores}
use Rattle.vg_slack.proofs.WaitLemmas.{all_wait}
use Rattle.vg_slack.proofs.search.choices_in.Goals as goal

pub choices_of_parts-requires-clause-held : goal.choices_of_parts-requires-clause-held
choices_of_parts-requires-clause-held g c = (c.in_ok-start.ensures.turn (slots_of c.args.arena.now)).held

pub choices_of_parts-requires-clause-waiting : goal.choices_of_parts-requires-clause-waiting
choices_of_parts-requires-clause-waiting g c = all_wait c.in_ok-waiting.ensures

pub choices_of_parts-requires-clause-parts : goal.choices_of_parts-requires-clause-parts
choices_of_parts-requires-clause-parts g c =
    all_parts c.args.p.now c.args.widths.now c.in_ok-waiting.waiting (made_of c.args.arena.now) c.start.new.pool c.start.new.parts.items c.in_ok-waiting.ensures
    c.in_ok-start.ensures.all c.in_ok-start.ensures.begun

pub choices_of_parts-requires-clause-kept : goal.choices_of_parts-requires-clause-kept
choices_of_parts-requires-clause-kept g c = none_kept c.args.p.now c.args.widths.now c.in_ok-waiting.waiting c.args.lists.now c.in_ok-waiting.ensures c.requires.none

pub returns-clause-restored : goal.returns-clause-restored
returns-clause-restored g c =
    swap_restores c.args.arena.now c.choices_of_parts.new.arena c.args.pool.now c.choices_of_parts.new.pool
    (swap_then (search c.args.pool.now c.args.arena.now) (search c.start.new.pool c.args.arena.now)
    (search c.choices_of_parts.new.pool c.choices_of_parts.new.arena) [] (all_lists c.start.new.parts.items) [] (c.in_ok-start.ensures.turn (slots_of c.args.arena.now)).swap c.choices_of_parts.ensures.swap)

pub returns-clause-swap : goal.returns-clause-swap
returns-clause-swap g c =
    if_ok c.choices_of_parts.result
    (swap_then (search c.args.pool.now c.args.arena.now) (search c.start.new.pool c.args.arena.now)
    (search c.choices_of_parts.new.pool c.choices_of_parts.new.arena) [] (all_lists c.start.new.parts.items) [] (c.in_ok-start.ensures.turn (slots_of c.args.arena.now)).swap c.choices_of_parts.ensures.swap)
