use Rattle.elmore.proofs.ProblemLemmas.{sum_fits}
use Rattle.elmore.proofs.legal.first_illegal_by.Goals as goal

pub sum_loads-requires-clause-sum : goal.sum_loads-requires-clause-sum
sum_loads-requires-clause-sum c = rw (c.as_slice.ensures, c.as_slice-2.ensures) (sum_fits c.args.p.now c.args.cells.now c.requires.placement)
