use Rattle.elmore.specs.Placements.{load_of}
use Rattle.elmore.proofs.FitLemmas.{is_sum, same_sum}
use Rattle.elmore.proofs.ProblemLemmas.{load_fits, sum_fits}
use Rattle.elmore.proofs.loads.load_by.Goals as goal

pub sum_loads-requires-clause-sum : goal.sum_loads-requires-clause-sum
sum_loads-requires-clause-sum c = rw (c.as_slice.ensures, c.as_slice-2.ensures) (sum_fits c.args.p.now c.args.cells.now c.requires.placement)

pub sum_at-requires-clause-sum : goal.sum_at-requires-clause-sum
sum_at-requires-clause-sum c =
    let loads = rw (c.as_slice.ensures, c.as_slice-2.ensures) at c.sum_loads.ensures in
    is_sum _ (load_of c.args.p.now c.args.cells.now c.args.node) (load_fits c.args.p.now c.args.cells.now c.requires.placement c.args.node)
    (loads c.args.node c.requires.node)

pub returns : goal.returns
returns c =
    let loads = rw (c.as_slice.ensures, c.as_slice-2.ensures) at c.sum_loads.ensures in
    same_sum _ _ _ c.sum_at.ensures (loads c.args.node c.requires.node)
