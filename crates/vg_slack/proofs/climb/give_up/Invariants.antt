use Rattle.cand_turns.specs.Swaps.{IsTurn, search}
use Rattle.vg_slack.specs.Climbs.{all_lists}
use Rattle.vg_slack.proofs.climb.give_up.Given as goal

abbrev pub invariant-parts : goal.invariant-parts
invariant-parts l = IsTurn (search l.initial.pool l.initial.arena) (all_lists l.initial.parts.items) (search l.pool l.arena) (all_lists l.parts.items)

abbrev pub decreases-parts : goal.decreases-parts
decreases-parts l = goal.left-parts l
