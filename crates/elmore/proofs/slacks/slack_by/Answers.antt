use Rattle.std.proofs.Common.{rules, arith, SFits}
use Rattle.std.proofs.lemmas.Int.{ints, to_z-of_z}
use mir.Syntax.{w128}
use Rattle.elmore.specs.Placements.{load_of}
use Rattle.elmore.proofs.FitLemmas.{whole, is_sum, same_sum}
use Rattle.elmore.proofs.ProblemLemmas.{placed_tree, load_fits, slack_is}
use Rattle.elmore.proofs.PlacedTreeLemmas.{load_small, delay_small}
use Rattle.elmore.proofs.slacks.slack_by.Goals as goal

pub sum_at-requires-clause-sum : goal.sum_at-requires-clause-sum
sum_at-requires-clause-sum c =
    let loads = rw (c.as_slice-nodes.ensures, c.as_slice-reps.ensures) at c.sum_loads.ensures in
    is_sum _ (load_of c.args.p.now c.args.cells.now 0) (load_fits c.args.p.now c.args.cells.now c.requires.placement 0)
    (loads 0 c.args.p.now.tree.a_tree.some_node)

pub departure-start-requires-clause-load : goal.departure-start-requires-clause-load
departure-start-requires-clause-load c =
    let loads = rw (c.as_slice-nodes.ensures, c.as_slice-reps.ensures) at c.sum_loads.ensures in
    omega (
      arith,
      same_sum _ _ _ c.sum_at.ensures (loads 0 c.args.p.now.tree.a_tree.some_node),
      load_small c.args.p.now.tree.nodes c.args.p.now.reps c.args.cells.now
          (placed_tree c.args.p.now c.args.cells.now c.requires.placement c.requires.placed) 0,
    )

pub least_slack-requires-clause-times : goal.least_slack-requires-clause-times
least_slack-requires-clause-times c = rw c.as_slice.ensures c.args.p.now.within.times

pub least_slack-requires-clause-delays_high : goal.least_slack-requires-clause-delays_high
least_slack-requires-clause-delays_high c =
    let delays = rw (c.as_slice-nodes.ensures, c.as_slice-reps.ensures) at c.sum_placed_delays.ensures in
    rw (c.as_slice.ensures, c.args.p.now.sinks_each)
    (λ v v_n.
    rw (delays v v_n)
    (omega (
      arith,
      ints,
      delay_small c.args.p.now.tree.nodes c.args.p.now.reps c.args.cells.now
          (placed_tree c.args.p.now c.args.cells.now c.requires.placement c.requires.placed) v v_n,
    )))

pub returns : goal.returns
returns c =
    let loads = rw (c.as_slice-nodes.ensures, c.as_slice-reps.ensures) at c.sum_loads.ensures in
    let fits : SFits w128 c.least_slack.result = search rules in
    rw (to_z-of_z w128 c.least_slack.result fits)
    (slack_is c.args.p.now c.args.cells.now c.sum_placed_delays.new.delays c.departure-start.result c.least_slack.result
    (rw (same_sum _ _ _ c.sum_at.ensures (loads 0 c.args.p.now.tree.a_tree.some_node)) at c.departure-start.ensures.is)
    (rw (c.as_slice-nodes.ensures, c.as_slice-reps.ensures) at c.sum_placed_delays.ensures)
    (rw (c.as_slice.ensures, whole c.departure-start.result (omega (arith, ints)) (omega (arith, ints))) at c.least_slack.ensures))
