use Rattle.cand_pool.proofs.PublicLaws.{held_named}
use Rattle.tests_engine.proofs.ReadyLaws.{listed_start, listed_ready}
use Rattle.tests_engine.proofs.cells.listed.Goals as goal

pub pairs-init : goal.pairs-init
pairs-init c = listed_start _ _ c.none-list.result c.none-list.ensures.same c.none-list.ensures.list

pub returns : goal.returns
returns c = listed_ready _ _ _ _ _ c.pairs.invariant

pub put-floor-requires-clause-live : goal.put-floor-requires-clause-live
put-floor-requires-clause-live c = held_named _ _ _ _ c.pairs.invariant.held
