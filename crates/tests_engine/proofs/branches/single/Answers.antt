use Rattle.std.proofs.Common.{lit≤}
use Rattle.tests_engine.proofs.ReadyLaws.{one_ready}
use Rattle.tests_engine.proofs.branches.single.Goals as goal

pub returns-clause-ready : goal.returns-clause-ready
returns-clause-ready c = one_ready _ c.one.result 7 2 (lit≤ tt) (lit≤ tt) c.one.ensures.list
