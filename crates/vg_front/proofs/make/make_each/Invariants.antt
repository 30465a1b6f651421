use Rattle.vg_front.proofs.MakeLemmas.{AreMakingSome}
use Rattle.vg_front.proofs.make.make_each.Given as goal

abbrev pub invariant-proposals : goal.invariant-proposals
invariant-proposals l = AreMakingSome l.fn.arena l.proposals l.x-index l.made.items l.arena
