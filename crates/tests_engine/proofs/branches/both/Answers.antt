use Rattle.tests_engine.proofs.ReadyLaws.{second}
use Rattle.tests_engine.proofs.branches.both.Goals as goal

pub met-requires-clause-a : goal.met-requires-clause-a
met-requires-clause-a g c = (second _ _ c.two-a.result c.single-b.result c.two-a.ensures.ready c.single-b.ensures.others).ready

pub met-requires-clause-differ : goal.met-requires-clause-differ
met-requires-clause-differ g c = (second _ _ c.two-a.result c.single-b.result c.two-a.ensures.ready c.single-b.ensures.others).differ
