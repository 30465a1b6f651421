use Rattle.std.proofs.Common.{ap, subst, arith}
use Rattle.vg_split.specs.Conditions.{IsSplit}
use Rattle.vg_split.specs.Splits.{Split as SplitSpec}
use Rattle.vg_split.proofs.SplitLemmas.{number_fits}
use Rattle.vg_split.proofs.split.Split.push_net.Goals as goal
use Rattle.vg_split.proofs.split.Split.push_net.Goals.{then-stage-eq0, else-stage-eq0}

pub overflow_add-self-inside : goal.overflow_add-self-inside
overflow_add-self-inside c =
    let x = c.args.self.now in
    let is = subst IsSplit c.self.view_is c.self.invariant.0 in
    elim c.if-stage-eq0.branch [
      | then-stage-eq0 w ↦
          omega (
            arith,
            w.cell-is,
            number_fits x is x.keeper is.keeper,
            ap (λ (y : SplitSpec). y.first) c.self.view_is,
            ap (λ (y : SplitSpec). y.keeper) c.self.view_is,
          )
      | else-stage-eq0 w ↦ omega (arith, w.cell-is, number_fits x is c.args.stage c.requires, ap (λ (y : SplitSpec). y.first) c.self.view_is)
    ]
