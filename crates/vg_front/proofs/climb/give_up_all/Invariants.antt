use Rattle.vg_front.specs.Parts.{all_held}
use Rattle.vg_front.proofs.ClimbLemmas.{HasGiven}
use Rattle.vg_front.proofs.climb.give_up_all.Given as goal

abbrev pub invariant-parts : goal.invariant-parts
invariant-parts l = HasGiven l.initial.arena (all_held l.initial.parts.items) l.arena (all_held l.parts.items)

abbrev pub decreases-parts : goal.decreases-parts
decreases-parts l = goal.left-parts l
