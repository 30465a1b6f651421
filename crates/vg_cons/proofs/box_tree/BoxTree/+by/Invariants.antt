use Rattle.std.proofs.Common.{length}
use Rattle.vg_cons.proofs.box_tree.BoxTree.+by.Given as goal

abbrev pub decreases-by : goal.decreases-by
decreases-by l = length l.boxes.now
