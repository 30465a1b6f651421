use Rattle.std.proofs.Common.{arith}
use Rattle.cand_turns.specs.Swaps.{search}
use Rattle.vg_slack.proofs.ClimbLemmas.{taken, both_held, taken_turn, lost_turn, part_whole, upper_so_far, parts_after}
use Rattle.vg_slack.proofs.KeptLemmas.{kept_more}
use Rattle.vg_slack.proofs.WaitLemmas.{is_last}
use Rattle.vg_slack.proofs.climb.turn.Goals as goal

pub take_in-requires-clause-held : goal.take_in-requires-clause-held
take_in-requires-clause-held g c =
    let at = taken c.args.p.now c.requires.below_root c.requires.waiting.node c.requires.parts.one_each c.parent_of-parent.ensures.parent
    c.take-part.ensures.part c.take-part.ensures.left c.take-upper.ensures.part c.take-upper.ensures.left in
    both_held at (search c.args.pool.now c.args.arena.now) c.requires.held

pub take_in-requires-clause-upper : goal.take_in-requires-clause-upper
take_in-requires-clause-upper g c =
    let at = taken c.args.p.now c.requires.below_root c.requires.waiting.node c.requires.parts.one_each c.parent_of-parent.ensures.parent
    c.take-part.ensures.part c.take-part.ensures.left c.take-upper.ensures.part c.take-upper.ensures.left in
    upper_so_far at c.requires.waiting c.requires.parts

pub take_in-requires-clause-whole : goal.take_in-requires-clause-whole
take_in-requires-clause-whole g c =
    let at = taken c.args.p.now c.requires.below_root c.requires.waiting.node c.requires.parts.one_each c.parent_of-parent.ensures.parent
    c.take-part.ensures.part c.take-part.ensures.left c.take-upper.ensures.part c.take-upper.ensures.left in
    part_whole at c.requires.waiting c.requires.parts c.requires.whole

pub take_in-requires-clause-none : goal.take_in-requires-clause-none
take_in-requires-clause-none g c =
    c.requires.kept.ahead c.args.node
    (omega (arith, is_last c.args.p.now c.args.waiting.now c.args.node c.requires.below_root c.requires.waiting))

pub returns-in_err-parts-clause-turn : goal.returns-in_err-parts-clause-turn
returns-in_err-parts-clause-turn g c =
    let at = taken c.args.p.now c.requires.below_root c.requires.waiting.node c.requires.parts.one_each c.parent_of-parent.ensures.parent
    c.take-part.ensures.part c.take-part.ensures.left c.take-upper.ensures.part c.take-upper.ensures.left in
    lost_turn at (search c.args.pool.now c.args.arena.now) (search c.take_in.new.pool c.take_in.new.arena) c.requires.held c.in_err-parts.ensures.turn

pub returns-clause-turn : goal.returns-clause-turn
returns-clause-turn g c =
    let at = taken c.args.p.now c.requires.below_root c.requires.waiting.node c.requires.parts.one_each c.parent_of-parent.ensures.parent
    c.take-part.ensures.part c.take-part.ensures.left c.take-upper.ensures.part c.take-upper.ensures.left in
    taken_turn at (search c.args.pool.now c.args.arena.now) (search c.take_in.new.pool c.take_in.new.arena) c.in_ok-parts.field-0 c.requires.held
    c.in_ok-parts.ensures.turn

pub returns-clause-parts : goal.returns-clause-parts
returns-clause-parts g c =
    let at = taken c.args.p.now c.requires.below_root c.requires.waiting.node c.requires.parts.one_each c.parent_of-parent.ensures.parent
    c.take-part.ensures.part c.take-part.ensures.left c.take-upper.ensures.part c.take-upper.ensures.left in
    parts_after at c.args.widths.now c.args.arena.now c.take_in.new.arena c.args.pool.now c.take_in.new.pool c.in_ok-parts.field-0 c.args.waiting.now c.cross_off.new.self
    c.requires.held c.in_ok-parts.ensures.turn c.requires.waiting c.cross_off.ensures.crossed c.requires.parts c.in_ok-parts.ensures.part

pub returns-clause-kept : goal.returns-clause-kept
returns-clause-kept g c =
    kept_more c.args.p.now c.args.widths.now c.args.node c.args.waiting.now c.cross_off.new.self c.args.lists.now c.take_in.new.lists c.cross_off.ensures.crossed
    c.requires.kept c.in_ok-parts.ensures.nodes c.in_ok-parts.ensures.others c.in_ok-parts.ensures.kept
