use Rattle.vg_cons.specs.BoxTrees.{parts_in}
use Rattle.vg_cons.proofs.box_tree.BoxTree.+hold.Given as goal

abbrev pub decreases-hold : goal.decreases-hold
decreases-hold l = parts_in l.self.now
