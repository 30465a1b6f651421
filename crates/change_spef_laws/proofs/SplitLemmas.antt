-- A placed net can be split, whatever number its first cell has.
use Rattle.std.proofs.Common.{◌≡◌, ℕ, ◌<◌, ◌^◌, true, [], length, find, replicate, slice_index, refl, sym, ap, ◌∙◌, subst, arith, Option, Some, None}
use Rattle.std.specs.Prelude.{unwrap_or}
use Rattle.std.proofs.lemmas.List.{length-replicate}
use Rattle.elmore.specs.Path.{nodes}
use Rattle.elmore.specs.Stage.{in_stage}
use Rattle.elmore.proofs.HeadLemmas.{head_of}
use Rattle.elmore.proofs.TreeLemmas.{tree_falls, tree_of}
use Rattle.vg_change.specs.Changes.{Changes, IsChange}
use Rattle.vg_change.specs.Placed.{PlacedNet, is_port_at, keeper_of, split_of, stage_at}
use Rattle.vg_change.specs.Steps.{placed_net}
use Rattle.vg_change.proofs.NameLemmas.{found_in}
use Rattle.vg_change.proofs.PairLemmas.{of_all}
use Rattle.vg_change.proofs.PosedLemmas.{is_split, problem_size}
use Rattle.vg_change.proofs.StageLemmas.{stage_is}
use Rattle.cut_laws.specs.CutNets.{forest_of}
use Rattle.vg_split.specs.Conditions.{IsSplit}
use Rattle.vg_split.proofs.StageNumberLemmas.{number_below, number_head}
use Rattle.vg_split.specs.Stages.{heads, heads_to}
use Rattle.vg_split.proofs.StageLists.{nodes_below}
use Rattle.change_spef_laws.specs.Nets.{IsPlacedNet}

-- a node is in a stage
some_stage : (p : PlacedNet) (w : ℕ) → w < length p.problem.tree.nodes → stage_at (forest_of p.problem p.cells) w < length (heads (forest_of p.problem p.cells))
some_stage p w low =
    let f = forest_of p.problem p.cells in
    let tree = p.problem.tree in
    let (v, of) = head_of f.parent f.n (tree_of tree.nodes tree.a_tree) f.cell w low in
    let number = length (heads_to f v) in
    let number_low = number_below f v of.within of.head in
    let inside : in_stage f.parent f.cell (slice_index (heads f) number) w ≡ true
    = ap (λ u. in_stage f.parent f.cell u w) (number_head f v of.within of.head) ∙ of.inside in
    omega (arith, stage_is f (tree_falls tree.nodes tree.a_tree) number w (record { number_is = number_low; inside = inside }), number_low)

-- the port, or the root, is a node of the tree
port_low : (p : PlacedNet) → 0 < length p.order → unwrap_or (find (is_port_at p) (nodes (length p.order))) 0 < length p.order
port_low p some = by_found (find (is_port_at p) (nodes (length p.order))) refl
  where
    by_found : (o : Option ℕ) → find (is_port_at p) (nodes (length p.order)) ≡ o → unwrap_or o 0 < length p.order
    by_found None e = some
    by_found (Some w) e = of_all (λ v. v < length p.order) (nodes (length p.order)) w (nodes_below (length p.order)) (found_in (is_port_at p) (nodes (length p.order)) w e).0

module _ (c : Changes) (keeps : IsChange c) (p : PlacedNet) (is : IsPlacedNet c.design p) (first : ℕ) where
  -- so many cells alone
  abbrev celled : Changes
  celled = record {
    design = c.design;
    prefix = c.prefix;
    sections = [];
    rewires = [];
    cells = replicate first (record { cell = []; name = []; input = []; output = []; from = []; to = [] });
    wires = [];
  }

  celled_keeps : IsChange celled
  celled_keeps = record {
    prefix = keeps.prefix;
    free = keeps.free;
    repeaters = keeps.repeaters;
    rise = omega arith;
    rewirable = record { linked = λ i d low. absurd (omega (arith, low)); once = λ i j d less low. absurd (omega (arith, low)) };
  }

  abbrev whole : PlacedNet
  whole = placed_net is.posed p.cells

  keeper_low : keeper_of whole < length (heads (forest_of is.posed.problem p.cells))
  keeper_low =
      let count = is.net.ready.a_tree.a_tree.lists.count in
      let size = problem_size c.design is.name is.posed is.net in
      let some = is.posed.problem.tree.a_tree.some_node in
      some_stage whole (unwrap_or (find (is_port_at whole) (nodes (length whole.order))) 0) (omega (arith, port_low whole (omega (arith, some, count, size)), count, size))

  pub split_is : first < 2 ^ 63 → IsSplit (split_of c.design c.prefix first p)
  split_is few =
      let count : length celled.cells ≡ first = length-replicate first _ in
      let own = is_split celled celled_keeps is.name is.posed is.net p.cells is.placement is.placed (omega (arith, count, few)) keeper_low in
      subst (λ (q : PlacedNet). IsSplit (split_of c.design c.prefix first q)) (sym is.is)
      (subst (λ (n : ℕ). IsSplit (split_of c.design c.prefix n whole)) count own)
