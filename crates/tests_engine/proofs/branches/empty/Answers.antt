use Rattle.tests_engine.proofs.ReadyLaws.{empty_ready, empty_others}
use Rattle.tests_engine.proofs.branches.empty.Goals as goal

pub returns-clause-ready : goal.returns-clause-ready
returns-clause-ready c = empty_ready _ c.none.result c.none.ensures.list

pub returns-clause-others : goal.returns-clause-others
returns-clause-others c = empty_others _ _ c.none.result c.none.ensures.same c.none.ensures.list
