use Rattle.std.proofs.Common.{pos, arith}
use Rattle.vg_cons.proofs.BoxTreeLemmas.{covers_trans, covered_more}
use Rattle.vg_cons.proofs.box_tree.around_all.Goals as goal

pub corners-preserved : goal.corners-preserved
corners-preserved c = (
  covers_trans c.around-all.result c.corners.all c.args.first c.around-all.ensures.one c.corners.invariant.0,
  covered_more c.corners.all c.around-all.result c.args.boxes.now c.corners.corners-index ((pos 0, pos 0), (pos 0, pos 0)) c.corners-test.true c.around-all.ensures.one c.corners.invariant.1 c.around-all.ensures.other,
)

pub returns-clause-all : goal.returns-clause-all
returns-clause-all c k d low = c.corners.invariant.1 k d (omega (arith, low, c.corners-test.false))
