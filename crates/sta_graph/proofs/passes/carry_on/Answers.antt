use Rattle.std.proofs.Common.{◌+◌, length, arith, rules}
use Rattle.std.proofs.lemmas.Int.{to_z-of_z}
use mir.Syntax.{w128}
use mir.Val.{SFits}
use Rattle.sta_graph.proofs.PassLaws.{carried_on, sum_is, delay_within}
use Rattle.sta_graph.proofs.passes.carry_on.Goals as goal

pub overflow_add-from : goal.overflow_add-from
overflow_add-from c =
    (sum_is (length c.args.g.now.leads + 1) c.held-from.result c.step_at-step.result.delay (omega (arith, c.requires.small.leads))
    (c.requires.bounded c.step_at-step.result.from c.held-from.result c.held-from.ensures)
    (delay_within c.args.g.now c.args.i c.step_at-step.result.delay c.requires.graph c.requires.small c.requires.lead c.step_at-step.ensures.delay)).0

pub returns : goal.returns
returns c =
    let p = c.step_at-step.result in
    let sum = sum_is (length c.args.g.now.leads + 1) c.held-from.result c.step_at-step.result.delay (omega (arith, c.requires.small.leads))
    (c.requires.bounded c.step_at-step.result.from c.held-from.result c.held-from.ensures)
    (delay_within c.args.g.now c.args.i c.step_at-step.result.delay c.requires.graph c.requires.small c.requires.lead c.step_at-step.ensures.delay) in
    let whole : SFits w128 c.later-reached.result = search rules in
    carried_on c.args.g.now c.args.i c.step_at-step.result.from c.step_at-step.result.to c.step_at-step.result.delay c.args.times.now c.held-from.result _ c.later-reached.result _
    c.step_at-step.ensures.from c.step_at-step.ensures.to c.step_at-step.ensures.delay c.held-from.ensures sum.1 c.later-reached.ensures
    (to_z-of_z w128 c.later-reached.result whole)
