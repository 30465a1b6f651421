-- The net of a problem as a tree, in short words.
use Rattle.std.proofs.Common.{◌≡◌, ℕ, List, refl, sym, ap, ◌∙◌, Option, None, Some, length, slice_index_or}
use Rattle.std.proofs.lemmas.Bool.{false≢true}
use Rattle.elmore.specs.Path.{Falls}
use Rattle.elmore.specs.Cells.{cell_at, rep_of}
use Rattle.elmore.specs.Legal.{IsPlaced}
use Rattle.elmore.specs.Trees.{parent_of}
use Rattle.elmore.specs.declared.rep.Rep.{Rep}
use Rattle.elmore.specs.declared.problem.Problem.{Problem}
use Rattle.elmore.proofs.HeadLemmas.{head_root}
use Rattle.elmore.proofs.RootLemmas.{IsRooted}
use Rattle.elmore.proofs.TreeLemmas.{tree_falls, tree_of}
use Rattle.cut_laws.specs.CutNets.{Begins}

abbrev pub parent_in : Problem → ℕ → ℕ
parent_in p = parent_of p.tree.nodes

abbrev pub cell_in : Problem → List (Option ℕ) → ℕ → Option Rep
cell_in p cells = cell_at p.reps cells

pub falls_in : (p : Problem) → Falls (parent_in p)
falls_in p = tree_falls p.tree.nodes p.tree.a_tree

pub rooted_in : (p : Problem) → IsRooted (parent_in p) (length p.tree.nodes)
rooted_in p = tree_of p.tree.nodes p.tree.a_tree

-- no cell stands at the root
pub root_bare : (p : Problem) (cells : List (Option ℕ)) → IsPlaced p cells → cell_in p cells 0 ≡ None
root_bare p cells is_placed = ap (rep_of p.reps) (none (slice_index_or cells 0 None) refl)
  where
    none : (o : Option ℕ) → slice_index_or cells 0 None ≡ o → o ≡ None
    none None e = refl
    none (Some b) e = absurd (false≢true (sym p.places_are.root ∙ is_placed 0 b e))

pub begins_root : (p : Problem) (cells : List (Option ℕ)) → Begins p cells 0
begins_root p cells = record { node = p.tree.a_tree.some_node; head = head_root (cell_in p cells) }
