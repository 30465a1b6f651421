use Rattle.std.proofs.Common.{sym, ◌∙◌, arith}
use Rattle.elmore.proofs.LimitLemmas.{cost_of_all}
use Rattle.elmore.proofs.costs.cost.Goals as goal

pub returns : goal.returns
returns c =
    sym c.cells.invariant.sum
    ∙ cost_of_all c.args.p.now c.args.at.now.cells _ _ c.cells.cell-index c.as_slice-reps.ensures c.as_slice-cell-items.ensures (omega arith)
