use Rattle.std.specs.Prelude.{ℕ, ◌<◌, slice_index_or}
use Rattle.vg_cons.specs.BoxTrees.{Covers}
use Rattle.vg_cons.specs.Statements.{Box}
use Rattle.vg_cons.proofs.box_tree.around_all.Given as goal

abbrev pub invariant-corners : goal.invariant-corners
invariant-corners l = Covers l.all l.fn.first
    × ((k : ℕ) (d : Box) → k < l.corners-index → Covers l.all (slice_index_or l.boxes k d))
