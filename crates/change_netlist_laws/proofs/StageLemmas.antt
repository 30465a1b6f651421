-- Each node is in a stage, and the port of a net is in one.
use Rattle.std.proofs.Common.{◌≡◌, ℕ, ◌<◌, true, List, length, find, sym, subst, arith, Option, Some, None, refl}
use Rattle.std.specs.Prelude.{unwrap_or}
use Rattle.std.proofs.lemmas.List.FromFn.{get_or-range_with_len, length-range_with_len}
use Rattle.elmore.specs.Path.{nodes}
use Rattle.elmore.specs.Trees.{parent_of}
use Rattle.elmore.specs.declared.problem.Problem.{Problem}
use Rattle.elmore.proofs.HeadLemmas.{head_of}
use Rattle.elmore.proofs.TreeLemmas.{tree_falls, tree_of}
use Rattle.vg_change.specs.Placed.{PlacedNet, above, is_port_at, keeper_of, stage_at}
use Rattle.vg_change.proofs.NameLemmas.{found_in}
use Rattle.vg_change.proofs.StageLemmas.{stage_is}
use Rattle.cut_laws.specs.CutNets.{forest_of}
use Rattle.cut_laws.specs.Pieces.{Forest}
use Rattle.vg_split.specs.Splits.{Split, forest, head}
use Rattle.vg_split.proofs.SplitLemmas.{head_low}
use Rattle.vg_split.proofs.StageNumberLemmas.{number_below, number_head}
use Rattle.vg_split.specs.Stages.{heads, heads_to, IsInStage}
use Rattle.elmore.specs.Stage.{in_stage}

module _ (p : Problem) (cells : List (Option ℕ)) where
  abbrev pub all : Forest
  all = forest_of p cells

  pub in_stage_at : (w : ℕ) → w < length p.tree.nodes → IsInStage all (heads all) (stage_at all w) w
  in_stage_at w low =
      let (v, is) = head_of all.parent all.n (tree_of p.tree.nodes p.tree.a_tree) all.cell w low in
      let k = length (heads_to all v) in
      let at : IsInStage all (heads all) k w = record {
        number_is = number_below all v is.within is.head;
        inside = subst (λ u. in_stage all.parent all.cell u w ≡ true) (sym (number_head all v is.within is.head)) is.inside;
      } in
      subst (λ j. IsInStage all (heads all) j w) (sym (stage_is all (tree_falls p.tree.nodes p.tree.a_tree) k w at)) at

-- the node whose stage keeps the name
abbrev pub port_node : PlacedNet → ℕ
port_node p = unwrap_or (find (is_port_at p) (nodes (length p.order))) 0

pub port_low : (p : PlacedNet) → length p.order ≡ length p.problem.tree.nodes → port_node p < length p.problem.tree.nodes
port_low p size = by_find (find (is_port_at p) (nodes (length p.order))) refl
  where
    by_find : (o : Option ℕ) → find (is_port_at p) (nodes (length p.order)) ≡ o → unwrap_or o 0 < length p.problem.tree.nodes
    by_find None e = p.problem.tree.a_tree.some_node
    by_find (Some w) e =
        let ((i, low, at), is) = found_in (is_port_at p) (nodes (length p.order)) w e in
        let i_low : i < length p.order = omega (arith, low, length-range_with_len 0 (length p.order)) in
        omega (arith, size, i_low, at, get_or-range_with_len 0 (length p.order) i w i_low)

pub keeper_low : (p : PlacedNet) → length p.order ≡ length p.problem.tree.nodes → keeper_of p < length (heads (forest_of p.problem p.cells))
keeper_low p size = (in_stage_at p.problem p.cells (port_node p) (port_low p size)).number_is

-- the stage above one that begins at a cell
pub above_stage : (x : Split) (k : ℕ) → k < length (heads (forest x)) → IsInStage (forest x) (heads (forest x)) (above x k) (parent_of x.problem.tree.nodes (head x k))
above_stage x k low =
    let falls = tree_falls x.problem.tree.nodes x.problem.tree.a_tree (head x k) in
    in_stage_at x.problem x.cells (parent_of x.problem.tree.nodes (head x k)) (omega (arith, falls, head_low x k low))

pub above_low : (x : Split) (k : ℕ) → k < length (heads (forest x)) → above x k < length (heads (forest x))
above_low x k low = (above_stage x k low).number_is
