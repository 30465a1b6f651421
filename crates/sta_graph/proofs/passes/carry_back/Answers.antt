use Rattle.std.proofs.Common.{◌+◌, length, arith, rules}
use Rattle.std.proofs.lemmas.Int.{to_z-of_z}
use mir.Syntax.{w128}
use mir.Val.{SFits}
use Rattle.sta_graph.proofs.PassLaws.{carried_back, difference_is, delay_within}
use Rattle.sta_graph.proofs.passes.carry_back.Goals as goal

pub overflow_sub-to : goal.overflow_sub-to
overflow_sub-to c =
    (difference_is (length c.args.g.now.leads + 2) c.held-to.result c.step_at-step.result.delay (omega (arith, c.requires.small.leads))
    (c.requires.bounded c.step_at-step.result.to c.held-to.result c.held-to.ensures)
    (delay_within c.args.g.now c.args.i c.step_at-step.result.delay c.requires.graph c.requires.small c.requires.lead c.step_at-step.ensures.delay)).0

pub returns : goal.returns
returns c =
    let p = c.step_at-step.result in
    let sum = difference_is (length c.args.g.now.leads + 2) c.held-to.result c.step_at-step.result.delay (omega (arith, c.requires.small.leads))
    (c.requires.bounded c.step_at-step.result.to c.held-to.result c.held-to.ensures)
    (delay_within c.args.g.now c.args.i c.step_at-step.result.delay c.requires.graph c.requires.small c.requires.lead c.step_at-step.ensures.delay) in
    let whole : SFits w128 c.earlier-allowed.result = search rules in
    carried_back c.args.g.now c.args.i c.step_at-step.result.from c.step_at-step.result.to c.step_at-step.result.delay c.args.times.now c.held-to.result _ c.earlier-allowed.result _
    c.step_at-step.ensures.from c.step_at-step.ensures.to c.step_at-step.ensures.delay c.held-to.ensures sum.1 c.earlier-allowed.ensures
    (to_z-of_z w128 c.earlier-allowed.result whole)
