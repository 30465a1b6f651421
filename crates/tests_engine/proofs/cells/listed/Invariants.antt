use Rattle.tests_engine.specs.Ready.{IsListed}
use Rattle.tests_engine.proofs.cells.listed.Given as goal

abbrev pub invariant-pairs : goal.invariant-pairs
invariant-pairs l = IsListed l.fn.pool l.pool l.list l.floor l.pair-index
