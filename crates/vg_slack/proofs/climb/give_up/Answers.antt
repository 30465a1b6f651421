use Rattle.std.proofs.Common.{List, sym, subst}
use Rattle.cand_turns.specs.declared.part.Part.{Part}
use Rattle.cand_turns.specs.Swaps.{search, AreHeld, IsTurn}
use Rattle.cand_turns.proofs.SwapLemmas.{turn_then}
use Rattle.vg_slack.specs.Climbs.{all_lists}
use Rattle.vg_slack.proofs.PartsLemmas.{turn_itself, last_alone, last_given}
use Rattle.vg_slack.proofs.climb.give_up.Goals as goal

pub parts-init : goal.parts-init
parts-init c = turn_itself (search c.args.pool.now c.args.arena.now) (all_lists c.args.parts.now.items) c.requires.held

pub give_up_part-requires : goal.give_up_part-requires
give_up_part-requires c =
    let held = subst (λ (items : List Part). AreHeld (search c.parts.pool c.parts.arena) (all_lists items)) c.in-Some.ensures.items c.parts.invariant.held in
    record { held = last_alone (search c.parts.pool c.parts.arena) c.pop.new.self.items c.in-Some.part held }

pub parts-preserved : goal.parts-preserved
parts-preserved c =
    let old = search c.parts.pool c.parts.arena in
    let new = search c.give_up_part.new.pool c.give_up_part.new.arena in
    let items = c.in-Some.ensures.items in
    let held = subst (λ (items : List Part). AreHeld old (all_lists items)) items c.parts.invariant.held in
    turn_then (search c.args.pool.now c.args.arena.now) old new _ _ _ c.parts.invariant
    (subst (λ (items : List Part). IsTurn old (all_lists items) new (all_lists c.pop.new.self.items)) (sym items)
    (last_given old new c.pop.new.self.items c.in-Some.part held c.give_up_part.ensures.swap))
