use Rattle.tests_engine.proofs.ReadyLaws.{second}
use Rattle.tests_engine.proofs.branches.with_empty.Goals as goal

pub met-requires-clause-a : goal.met-requires-clause-a
met-requires-clause-a g c = (second _ _ c.single-a.result c.empty-b.result c.single-a.ensures.ready c.empty-b.ensures.others).ready

pub met-requires-clause-differ : goal.met-requires-clause-differ
met-requires-clause-differ g c = (second _ _ c.single-a.result c.empty-b.result c.single-a.ensures.ready c.empty-b.ensures.others).differ
