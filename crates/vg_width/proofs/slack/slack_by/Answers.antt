use Rattle.std.proofs.Common.{rules, arith, SFits}
use Rattle.std.proofs.lemmas.Int.{ints, to_z-of_z}
use mir.Syntax.{w128}
use Rattle.elmore.proofs.FitLemmas.{whole}
use Rattle.vg_width.proofs.DelayLemmas.{load_small, delay_small, slack_is}
use Rattle.vg_width.proofs.slack.slack_by.Goals as goal

pub departure-requires-clause-load : goal.departure-requires-clause-load
departure-requires-clause-load c =
    let p = c.args.p.now in
    omega (
      arith,
      c.sum_loads.ensures 0 p.tree.a_tree.some_node,
      load_small p c.args.widths.now c.args.cells.now c.args.chosen.now 0 c.requires.net p.tree.a_tree.some_node,
    )

pub least_slack-requires-clause-times : goal.least_slack-requires-clause-times
least_slack-requires-clause-times c = rw c.as_slice.ensures c.args.p.now.within.times

pub least_slack-requires-clause-delays : goal.least_slack-requires-clause-delays
least_slack-requires-clause-delays c =
    let p = c.args.p.now in
    rw (c.as_slice.ensures, p.sinks_each)
    (λ v v_n.
    omega (arith, c.sum_delays.ensures v v_n, delay_small p c.args.widths.now c.args.cells.now c.args.chosen.now v c.requires.net v_n))

pub returns : goal.returns
returns c =
    let p = c.args.p.now in
    let fits : SFits w128 c.least_slack.result = search rules in
    rw (to_z-of_z w128 c.least_slack.result fits)
    (slack_is p c.args.widths.now c.args.cells.now c.args.chosen.now c.sum_delays.new.delays c.departure.result c.least_slack.result
    (rw (c.sum_loads.ensures 0 p.tree.a_tree.some_node) at c.departure.ensures.is)
    c.sum_delays.ensures
    (rw (c.as_slice.ensures, whole c.departure.result (omega (arith, ints)) (omega (arith, ints))) at c.least_slack.ensures))
