use Rattle.std.proofs.Common.{ℕ, ap, length, List, Option}
use Rattle.elmore.specs.Cells.{cell_at, rep_of}
use Rattle.elmore.specs.Trees.{parent_of, resistance, capacitance}
use Rattle.elmore.specs.PlacedLaws.{AreAlikeFrom}
use Rattle.elmore.specs.declared.tree.Node.{Node}
use Rattle.elmore.specs.declared.rep.Rep.{Rep}
use Rattle.elmore.proofs.LocalLemmas.{Same, same_agree, load_local, same_input_load, same_delay, same_inverters}
use Rattle.elmore.proofs.TreeLemmas.{tree_falls}
use Rattle.elmore.proofs.laws.below_decides.Goals as goal

same : (tree : List Node) (reps : List Rep) (v : ℕ) (a b : List (Option ℕ)) → AreAlikeFrom tree v a b
    → Same (parent_of tree) v (cell_at reps a) (cell_at reps b)
same tree reps v a b alike = record { at = λ u over. ap (rep_of reps) (alike u over) }

pub returns : goal.returns
returns c = λ tree reps v a b t alike. record {
  load =
      load_local (parent_of tree) (tree_falls tree t) v (cell_at reps a) (cell_at reps b)
      (same_agree (parent_of tree) v (cell_at reps a) (cell_at reps b) (same tree reps v a b alike)) (capacitance tree) (length tree);
  input_load =
      same_input_load (parent_of tree) (tree_falls tree t) v (cell_at reps a) (cell_at reps b) (same tree reps v a b alike) (capacitance tree) (length tree);
  delays = λ w over.
      same_delay (parent_of tree) (tree_falls tree t) v (cell_at reps a) (cell_at reps b) (same tree reps v a b alike)
      (resistance tree) (capacitance tree) (length tree) w over;
  inverters = λ w over. same_inverters (parent_of tree) (tree_falls tree t) v (cell_at reps a) (cell_at reps b) (same tree reps v a b alike) w over;
}
