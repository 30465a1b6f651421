use Rattle.std.proofs.Common.{length}
use Rattle.elmore.specs.Cells.{cell_at}
use Rattle.elmore.specs.Trees.{parent_of, capacitance}
use Rattle.elmore.proofs.ChildLoadLemmas.{load_children}
use Rattle.elmore.proofs.TreeLemmas.{tree_of}
use Rattle.elmore.proofs.laws.load_steps.Goals as goal

pub returns : goal.returns
returns c = λ tree reps cells t v v_n. load_children (parent_of tree) (length tree) (tree_of tree t) (capacitance tree) (cell_at reps cells) v v_n
