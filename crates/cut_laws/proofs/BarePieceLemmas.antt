-- A net without cells is its own only piece.
use Rattle.std.proofs.Common.{◌≡◌, ℕ, ◌<◌, Bool, true, false, List, refl, sym, ap, ◌∙◌, cond, arith, Option, length, is_some}
use Rattle.elmore.specs.Cells.{cell_at, rep_of, input_capacitance}
use Rattle.elmore.specs.Stage.{in_stage}
use Rattle.elmore.specs.Trees.{IsTree, parent_of, capacitance}
use Rattle.elmore.specs.PlacedLaws.{HasNoCell}
use Rattle.elmore.specs.declared.tree.Node.{Node}
use Rattle.elmore.specs.declared.rep.Rep.{Rep}
use Rattle.elmore.proofs.RootLemmas.{from_root}
use Rattle.elmore.proofs.StageLemmas.{stage_self, stage_below}
use Rattle.elmore.proofs.TreeLemmas.{tree_falls, tree_of}
use Rattle.cut_laws.specs.Pieces.{placed, IsPieceOf}
use Rattle.cut_laws.proofs.PieceLemmas.{stage_in_piece}

all_inside : (tree : List Node) (reps : List Rep) (cells : List (Option ℕ)) → IsTree tree → HasNoCell cells → (i : ℕ) → i < length tree
    → in_stage (parent_of tree) (cell_at reps cells) 0 i ≡ true
all_inside tree reps cells t bare =
    from_root (parent_of tree) (length tree) (tree_of tree t) (λ i. in_stage (parent_of tree) (cell_at reps cells) 0 i ≡ true)
    (stage_self (parent_of tree) (cell_at reps cells) (tree_falls tree t) 0)
    (λ i i_0 i_n more.
    stage_below (parent_of tree) (cell_at reps cells) (tree_falls tree t) 0 i (λ e. absurd (omega (arith, t.smaller i i_0 i_n))) (λ e. absurd (omega arith))
    ∙ ap (λ (o : Option Rep). cond (is_some o) false (in_stage (parent_of tree) (cell_at reps cells) 0 (parent_of tree i))) (ap (rep_of reps) (bare i))
    ∙ more)

pub bare_piece : (tree : List Node) (reps : List Rep) (cells : List (Option ℕ)) → IsTree tree → HasNoCell cells
    → IsPieceOf (placed tree reps cells) 0 tree (λ i. i)
bare_piece tree reps cells t bare = record {
  a_tree = t;
  root = refl;
  within = λ i i_n. i_n;
  inside = λ i i_n. stage_in_piece (placed tree reps cells) 0 i (all_inside tree reps cells t bare i i_n);
  once = λ i k i_n k_n same. same;
  each = λ w w_n inside. (w, w_n, refl);
  edges = λ i i_0 i_n. refl;
  wires = λ i i_0 i_n. refl;
  capacitances = λ i i_n.
      sym (ap (λ (b : Bool). cond b (capacitance tree i) (input_capacitance (cell_at reps cells i))) (all_inside tree reps cells t bare i i_n));
}
