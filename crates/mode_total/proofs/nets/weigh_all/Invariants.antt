use Rattle.mode_total.specs.Steps.{AreWeighed}
use Rattle.mode_total.proofs.nets.weigh_all.Given as goal

abbrev pub invariant-net : goal.invariant-net
invariant-net l = AreWeighed l.design l.cap l.place l.all
