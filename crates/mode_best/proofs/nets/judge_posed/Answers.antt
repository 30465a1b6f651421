use Rattle.std.proofs.Common.{Bool, subst, sym}
use Rattle.std.specs.Prelude.{IfOk}
use Rattle.mode_best.specs.Steps.{JudgesOne}
use Rattle.mode_best.proofs.nets.judge_posed.Goals as goal

pub returns-then-is_certified : goal.returns-then-is_certified
returns-then-is_certified c =
    subst (λ (certified : Bool). IfOk c.judge_certified.result (JudgesOne c.args.design.now c.args.name.now certified c.args.judging)) (sym c.if-is_certified.true)
    c.judge_certified.ensures

pub returns : goal.returns
returns c =
    subst (λ (certified : Bool). IfOk c.judge_bare.result (JudgesOne c.args.design.now c.args.name.now certified c.args.judging)) (sym c.if-is_certified.false)
    c.judge_bare.ensures
