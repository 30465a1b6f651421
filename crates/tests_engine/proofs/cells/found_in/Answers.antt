use Rattle.cand_pool.specs.Pools.{items_of}
use Rattle.tests_engine.proofs.cells.found_in.Goals as goal

pub find_each-requires-clause-from : goal.find_each-requires-clause-from
find_each-requires-clause-from g c = c.listed-list.ensures.live

pub find_each-requires-clause-rising : goal.find_each-requires-clause-rising
find_each-requires-clause-rising g c = c.listed-list.ensures.rises

pub find_each-requires-clause-modest : goal.find_each-requires-clause-modest
find_each-requires-clause-modest g c = c.listed-list.ensures.modest

pub returns : goal.returns
returns g c = record { xs = items_of c.listed-list.new.pool c.listed-list.result; bare = c.listed-list.ensures.bare; found = c.in_ok-find_each.ensures.found }
