use Rattle.std.proofs.Common.{◌+◌, arith, subst, sym}
use Rattle.sta_graph.specs.Begins.{AreEnds}
use Rattle.sta_graph.proofs.BeginLaws.{ends_skip, ends_one}
use Rattle.sta_graph.proofs.slacks.hold_ends.Goals as goal
use Rattle.sta_graph.proofs.slacks.hold_ends.Goals.{then-not-leading-j, else-not-leading-j}

pub sinks-preserved : goal.sinks-preserved
sinks-preserved c =
    elim c.if-not-leading-j.branch [
      | then-not-leading-j w ↦
          subst (AreEnds c.args.g.now c.args.leading.now (c.sinks.j + 1)) (sym w.times-is)
          (ends_one c.args.g.now c.args.leading.now c.sinks.j c.sinks.times w.hold_end.new.times c.requires.graph c.requires.small c.requires.leading
          c.sinks.invariant (omega arith) w.if-not-leading-j.true w.hold_end.ensures)
      | else-not-leading-j w ↦
          subst (AreEnds c.args.g.now c.args.leading.now (c.sinks.j + 1)) (sym w.times-is)
          (ends_skip c.args.g.now c.args.leading.now c.sinks.j c.sinks.times c.sinks.invariant w.if-not-leading-j.false)
    ]
