use Rattle.std.proofs.Common.{◌+◌, ℤ, rules, subst, sym}
use Rattle.std.proofs.lemmas.Int.{to_z-of_z}
use mir.Syntax.{w128}
use mir.Val.{SFits}
use Rattle.sta_graph.specs.Begins.{IsWorstSo, IsWorse}
use Rattle.sta_graph.proofs.BeginLaws.{worst_skip, worst_step}
use Rattle.sta_graph.proofs.slacks.worst_end.Goals as goal
use Rattle.sta_graph.proofs.slacks.worst_end.Goals.{then-not-leading-j, else-not-leading-j}

pub sinks-preserved : goal.sinks-preserved
sinks-preserved c =
    elim c.if-not-leading-j.branch [
      | then-not-leading-j w ↦
          let fits : SFits w128 w.slack_to.result = search rules in
          subst (IsWorstSo c.args.g.now c.args.leading.now c.args.arrivals.now (c.sinks.j + 1)) (sym w.best-is)
          (worst_step c.args.g.now c.args.leading.now c.args.arrivals.now c.sinks.j c.sinks.best w.slack_to.result w.worse.result w.if-not-leading-j.true c.sinks.invariant w.slack_to.ensures
          (subst (λ (z : ℤ). IsWorse c.sinks.best c.sinks.j z w.worse.result) (to_z-of_z w128 w.slack_to.result fits) w.worse.ensures))
      | else-not-leading-j w ↦
          subst (IsWorstSo c.args.g.now c.args.leading.now c.args.arrivals.now (c.sinks.j + 1)) (sym w.best-is)
          (worst_skip c.args.g.now c.args.leading.now c.args.arrivals.now c.sinks.j c.sinks.best w.if-not-leading-j.false c.sinks.invariant)
    ]
