use Rattle.std.proofs.Common.{ap, subst, arith}
use Rattle.vg_split.specs.Conditions.{IsSplit}
use Rattle.vg_split.specs.Splits.{Split as SplitSpec}
use Rattle.vg_split.proofs.SplitLemmas.{number_fits}
use Rattle.vg_change.proofs.cells.put_wire.Goals as goal

pub overflow_add-x-inside : goal.overflow_add-x-inside
overflow_add-x-inside c =
    let is = subst IsSplit c.x.view_is c.x.invariant.0 in
    omega (arith, number_fits c.args.x.now is c.args.stage c.requires.stage, ap (λ (y : SplitSpec). y.first) c.x.view_is)
