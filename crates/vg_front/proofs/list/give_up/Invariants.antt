use Rattle.vg_front.proofs.HeldLemmas.{IsGivingUp}
use Rattle.vg_front.proofs.list.give_up.Given as goal

abbrev pub invariant-candidates : goal.invariant-candidates
invariant-candidates l = IsGivingUp l.fn.arena l.fn.list.items l.arena l.list.items

abbrev pub decreases-candidates : goal.decreases-candidates
decreases-candidates l = goal.left-candidates l
