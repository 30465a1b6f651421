use Rattle.tests_engine.proofs.ReadyLaws.{IsRising}
use Rattle.tests_engine.proofs.branches.rising.Given as goal

abbrev pub invariant-places : goal.invariant-places
invariant-places l = IsRising l.fn.pool l.pool l.list l.at
