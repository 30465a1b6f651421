use Rattle.std.proofs.Common.{length}
use Rattle.elmore.specs.Cells.{cell_at}
use Rattle.elmore.specs.Trees.{parent_of}
use Rattle.elmore.proofs.HeadLemmas.{head_of, one_stage}
use Rattle.elmore.proofs.TreeLemmas.{tree_falls, tree_of}
use Rattle.elmore.proofs.laws.one_stage.Goals as goal

pub returns : goal.returns
returns c = λ tree reps cells t w w_n.
    let (v, is) = head_of (parent_of tree) (length tree) (tree_of tree t) (cell_at reps cells) w w_n in (
      v,
      record { node = is.within; head = is.head; inside = is.inside },
      λ u other. one_stage (parent_of tree) (cell_at reps cells) (tree_falls tree t) u v other.head is.head w other.inside is.inside,
    )
