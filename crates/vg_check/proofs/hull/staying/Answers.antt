use Rattle.std.proofs.Common.{arith}
use Rattle.vg_check.proofs.HullLemmas.{ready_less_one}
use Rattle.vg_check.proofs.hull.staying.Goals as goal

pub points-preserved : goal.points-preserved
points-preserved c =
    ready_less_one c.args.pairs.now c.args.next c.args.points.now c.points.top (omega (arith, c.points-test.true)) c.requires.rising c.requires.hull c.requires.next
    c.if-is_less.ensures c.points.invariant
