use Rattle.std.proofs.Common.{[], sym, ap, ◌∙◌, subst, arith}
use Rattle.sol_arena.specs.Arenas.{made_of}
use Rattle.cand_turns.specs.declared.part.Part.{Part}
use Rattle.cand_turns.specs.Swaps.{search, AreHeld, IsSwap}
use Rattle.cand_turns.specs.Parts.{lists_in}
use Rattle.cand_turns.proofs.SwapLemmas.{swap_then}
use Rattle.vg_slack.specs.Climbs.{all_lists, IsSoFar}
use Rattle.vg_slack.proofs.ClimbLemmas.{root_whole, root_lists}
use Rattle.vg_slack.proofs.search.choices_of_parts.Goals as goal

pub returns-in-Err-clause-swap : goal.returns-in-Err-clause-swap
returns-in-Err-clause-swap g c =
    swap_then (search c.args.pool.now c.args.arena.now) (search c.climb.new.pool c.climb.new.arena) (search c.give_up.new.pool c.give_up.new.arena)
    (all_lists c.args.parts.now.items) (all_lists c.climb.new.parts.items) [] c.climb.ensures.turn.swap c.give_up.ensures.swap

pub take-root-requires : goal.take-root-requires
take-root-requires g c = omega (arith, c.in_default.ensures.parts.one_each, c.args.p.now.tree.a_tree.some_node)

pub choices_at_root-requires-clause-held : goal.choices_at_root-requires-clause-held
choices_at_root-requires-clause-held g c =
    subst (AreHeld (search c.climb.new.pool c.climb.new.arena))
    (root_lists c.in_default.ensures.root c.args.widths.now (made_of c.climb.new.arena) c.climb.new.pool c.climb.new.parts.items c.in_default.ensures.parts
    ∙ ap (λ (x : Part). lists_in x) (sym c.take-root.ensures.part))
    c.climb.ensures.turn.held

pub choices_at_root-requires-clause-whole : goal.choices_at_root-requires-clause-whole
choices_at_root-requires-clause-whole g c =
    subst (IsSoFar c.args.p.now c.args.widths.now 1 0 (made_of c.climb.new.arena) c.climb.new.pool) (sym c.take-root.ensures.part)
    (root_whole c.in_default.ensures.root c.args.widths.now (made_of c.climb.new.arena) c.climb.new.pool c.climb.new.parts.items c.in_default.ensures.parts)

pub choices_at_root-requires-clause-none : goal.choices_at_root-requires-clause-none
choices_at_root-requires-clause-none g c = c.in_default.ensures.kept.ahead 0 (omega arith)

pub choices_at_root-requires-clause-below : goal.choices_at_root-requires-clause-below
choices_at_root-requires-clause-below g c = λ v v_n other.
    c.in_default.ensures.kept.done v v_n (λ there. other (c.in_default.ensures.root.alone v v_n there))

pub returns-clause-swap : goal.returns-clause-swap
returns-clause-swap g c =
    swap_then (search c.args.pool.now c.args.arena.now) (search c.climb.new.pool c.climb.new.arena)
    (search c.choices_at_root.new.pool c.choices_at_root.new.arena)
    (all_lists c.args.parts.now.items) (all_lists c.climb.new.parts.items) [] c.climb.ensures.turn.swap
    (subst (λ lists. IsSwap (search c.climb.new.pool c.climb.new.arena) lists (search c.choices_at_root.new.pool c.choices_at_root.new.arena) [])
    (ap (λ (x : Part). lists_in x) c.take-root.ensures.part
    ∙ sym (root_lists c.in_default.ensures.root c.args.widths.now (made_of c.climb.new.arena) c.climb.new.pool c.climb.new.parts.items c.in_default.ensures.parts))
    c.choices_at_root.ensures.swap)
