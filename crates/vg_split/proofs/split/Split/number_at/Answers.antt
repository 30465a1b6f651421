use Rattle.std.proofs.Common.{ap, subst, arith}
use Rattle.vg_split.specs.Stages.{AreStages}
use Rattle.vg_split.specs.Conditions.{IsSplit}
use Rattle.vg_split.specs.Splits.{Split as SplitSpec, forest}
use Rattle.vg_split.proofs.SplitLemmas.{number_is}
use Rattle.vg_split.proofs.split.Split.number_at.Goals as goal

pub overflow_sub-index : goal.overflow_sub-index
overflow_sub-index c =
    let is = subst IsSplit c.self.view_is c.self.invariant.0 in
    let are = subst (λ (x : SplitSpec). AreStages (forest x) c.self.inside.stages.now) c.self.view_is c.self.invariant.1 in
    (number_is c.args.self.now c.self.inside.stages.now c.args.node c.index.result.now is are c.requires.node c.requires.cell c.index.ensures).some

pub overflow_add-result : goal.overflow_add-result
overflow_add-result c =
    let is = subst IsSplit c.self.view_is c.self.invariant.0 in
    let are = subst (λ (x : SplitSpec). AreStages (forest x) c.self.inside.stages.now) c.self.view_is c.self.invariant.1 in
    let number = number_is c.args.self.now c.self.inside.stages.now c.args.node c.index.result.now is are c.requires.node c.requires.cell c.index.ensures in
    omega (arith, number.fits, c.from.ensures, ap (λ (x : SplitSpec). x.first) c.self.view_is)

pub returns : goal.returns
returns c =
    let is = subst IsSplit c.self.view_is c.self.invariant.0 in
    let are = subst (λ (x : SplitSpec). AreStages (forest x) c.self.inside.stages.now) c.self.view_is c.self.invariant.1 in
    let number = number_is c.args.self.now c.self.inside.stages.now c.args.node c.index.result.now is are c.requires.node c.requires.cell c.index.ensures in
    omega (arith, number.is, c.from.ensures, ap (λ (x : SplitSpec). x.first) c.self.view_is)
