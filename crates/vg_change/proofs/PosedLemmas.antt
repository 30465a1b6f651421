-- A posed net with a placement can be split.
use Rattle.std.proofs.Common.{◌≡◌, ℕ, ◌<◌, ◌≤◌, ◌^◌, ◌&&◌, Bool, true, false, List, length, find, get_or, slice_index, refl, sym, ap, ◌∙◌, arith, inl, inr, Option, Some, None, is_some}
use Rattle.std.proofs.lemmas.Bool.{cases_lt, false≢true}
use Rattle.std.specs.Prelude.{unwrap_or}
use Rattle.std.proofs.lemmas.List.{get_or_default, get_or_past, length-map}
use Rattle.std.proofs.lemmas.List.FromFn.{get_or-map-range_with_len, length-map-range_with_len}
use Rattle.std.proofs.lemmas.Option.{slice_get-get_or}
use Rattle.elmore.specs.Cells.{cell_at, has_cell}
use Rattle.elmore.specs.Legal.{IsPlaced}
use Rattle.elmore.specs.Path.{nodes}
use Rattle.elmore.specs.Placements.{IsPlacement}
use Rattle.elmore.specs.Problems.{is_place, is_above_sink}
use Rattle.elmore.specs.Trees.{total_capacitance}
use Rattle.elmore.specs.declared.rep.Rep.{Rep}
use Rattle.elmore.specs.declared.tree.Node.{Node}
use Rattle.elmore.specs.declared.problem.Problem.{Problem}
use Rattle.elmore.proofs.TreeLemmas.{tree_falls}
use Rattle.lib_linear.specs.declared.repeater.Repeater.{Repeater}
use Rattle.spef_net.specs.declared.net.ParNet.{ParNet}
use Rattle.cut_laws.specs.CutNets.{forest_of}
use Rattle.vg_design.specs.Designs.{Design, Joined, NO_NODE, is_port, name_of}
use Rattle.vg_design.specs.Nets.{IsPosedNet}
use Rattle.vg_design.specs.Parts.{free_of, loaded_tree, places_in, sinks_of}
use Rattle.vg_design.specs.declared.net_problem.PosedNet.{PosedNet}
use Rattle.vg_design.proofs.PartLemmas.{conn_not_free, order_size, tree_size}
use Rattle.vg_split.proofs.StageLists.{some_cell}
use Rattle.spef_write.specs.Sections.{total}
use Rattle.vg_split.specs.Conditions.{IsSplit}
use Rattle.vg_split.specs.Splits.{Split, forest, is_celled, old_node}
use Rattle.vg_split.specs.Stages.{AreStages, heads}
use Rattle.vg_split.specs.declared.stages.Stages.{Stages}
use Rattle.vg_change.specs.Changes.{Changes, IsChange, split_behind}
use Rattle.vg_change.specs.Placed.{PlacedNet, is_port_at, keeper_of, stage_at}
use Rattle.vg_change.specs.Steps.{placed_net}
use Rattle.vg_change.proofs.ChargeLemmas.{charge_within}
use Rattle.vg_change.proofs.NameLemmas.{name_old, owners_old}
use Rattle.vg_change.proofs.StageLemmas.{stage_is}

module _ (d : Design) (name : List ℕ) (posed : PosedNet) (is : IsPosedNet d name posed) where
  abbrev n : Joined
  n = posed.ready.pinned.net

  abbrev tree : List Node
  tree = posed.ready.tree.nodes

  abbrev order : List ℕ
  order = posed.ready.order

  abbrev p : Problem
  p = posed.problem

  pub problem_size : length p.tree.nodes ≡ length n.par.nodes
  problem_size =
      ap (λ (ns : List Node). length ns) is.problem.tree_is ∙ length-map-range_with_len _ 0 (length tree) ∙ tree_size d n posed.ready.pinned.pins tree order is.ready

  pub small_charge : total n.par.caps ≤ 10 ^ 15
  small_charge =
      let a_tree = is.ready.a_tree.a_tree in
      omega (
        arith,
        charge_within d n tree order a_tree.count a_tree.lists a_tree.capacitances,
        ap total_capacitance is.problem.tree_is,
        p.within.capacitances,
      )

  -- what the table of stages has at the port, or at the root, is the stage that keeps the net's name
  pub keeper_found : (cells : List (Option ℕ)) (par : ParNet) (way : List ℕ) (stages : Stages) (port keeper : ℕ) → par ≡ n.par → way ≡ order
      → AreStages (forest_of p cells) stages → port ≡ unwrap_or (find (λ w. is_port (name_of par (slice_index way w))) (nodes (length way))) 0 → port < length way
      → keeper ≡ get_or stages.stage_of.items port keeper
      → (keeper ≡ keeper_of (placed_net posed cells)) × (keeper_of (placed_net posed cells) < length (heads (forest_of p cells)))
  keeper_found cells par way stages port keeper par_is way_is are port_is low found =
      let f = forest_of p cells in
      let port_low : port < length p.tree.nodes = omega (arith, low, ap (λ (l : List ℕ). length l) way_is, is.ready.a_tree.a_tree.lists.count, problem_size) in
      let stage = are.each port port_low in
      let at : keeper ≡ slice_index stages.stage_of.items port
      = found ∙ get_or_default stages.stage_of.items port keeper 0 (omega (arith, port_low, are.one_each)) in
      let same : port ≡ unwrap_or (find (is_port_at (placed_net posed cells)) (nodes (length order))) 0
      = port_is ∙ (λ k. unwrap_or (find (λ w. is_port (name_of (par_is k) (slice_index (way_is k) w))) (nodes (length (way_is k)))) 0) in
      let kept : keeper ≡ keeper_of (placed_net posed cells)
      = at ∙ sym (stage_is f (tree_falls p.tree.nodes p.tree.a_tree) _ port stage) ∙ ap (stage_at f) same in
      (kept, omega (arith, kept, at, stage.number_is))

  -- a node that may have a cell is free
  place_free : (w : ℕ) → get_or p.places w false ≡ true → (w < length tree) × (get_or (free_of d.rows n.par order) w false ≡ true)
  place_free w has =
      let loaded = loaded_tree d n tree order in
      let free = free_of d.rows n.par order in
      let test : ℕ → Bool = is_place loaded (sinks_of d.rows n.par order) free in
      let size : length loaded ≡ length tree = length-map-range_with_len {X = Node} _ 0 (length tree) in
      let here : get_or (places_in d n tree order) w false ≡ true = sym (ap (λ (bs : List Bool). get_or bs w false) is.problem.places) ∙ has in
      elim (cases_lt w (length loaded)) [
        | inl low ↦ (
          omega (arith, low, size),
          first (get_or free w false) (is_above_sink loaded (sinks_of d.rows n.par order) w) (sym (get_or-map-range_with_len test 0 (length loaded) w w false low (omega arith)) ∙ here),
        )
        | inr high ↦
            absurd (false≢true (sym (get_or_past (places_in d n tree order) w false (omega (arith, high, length-map-range_with_len test 0 (length loaded)))) ∙ here))
      ]
    where
      first : (a b : Bool) → (a && b) ≡ true → a ≡ true
      first true b e = refl
      first false b e = absurd (cc)

  -- and is inside the net
  pub place_inner : (w : ℕ) → get_or p.places w false ≡ true → (get_or n.par.nodes (slice_index order w) NO_NODE).inner ≡ true
  place_inner w has =
      let (low, free) = place_free w has in
      let size = order_size d n posed.ready.pinned.pins tree order is.ready in
      let tsize = tree_size d n posed.ready.pinned.pins tree order is.ready in
      let v = slice_index order w in
      let v_low : v < length n.par.nodes = is.ready.a_tree.a_tree.lists.within w (omega (arith, low, tsize)) in
      elim (cases_lt v (length n.par.conns)) [
        | inl conn ↦ absurd (false≢true (sym (conn_not_free d n posed.ready.pinned.pins tree order is.ready w conn (omega (arith, low, size, tsize))) ∙ free))
        | inr inner ↦ n.par.sound.joined.inner v (get_or n.par.nodes v NO_NODE) inner (slice_get-get_or n.par.nodes v NO_NODE v_low)
      ]

  module _ (cells : List (Option ℕ)) (placed : IsPlaced p cells) where
    -- cells stand at places
    pub cell_place : (w : ℕ) → has_cell (cell_at p.reps cells) w ≡ true → get_or p.places w false ≡ true
    cell_place w celled = at (get_or cells w None) refl (sym (some_cell p.reps cells w) ∙ celled)
      where
        at : (o : Option ℕ) → get_or cells w None ≡ o → is_some o ≡ true → get_or p.places w false ≡ true
        at None e has = absurd (cc)
        at (Some b) e has = placed w b e

    pub no_root_cell : get_or cells 0 None ≡ None
    no_root_cell = at (get_or cells 0 None) refl
      where
        at : (o : Option ℕ) → get_or cells 0 None ≡ o → o ≡ None
        at None e = refl
        at (Some b) e = absurd (false≢true (sym p.places_are.root ∙ placed 0 b e))

-- ---- the net, as it is split behind what changed before

module _ (c : Changes) (is : IsChange c) (name : List ℕ) (posed : PosedNet) (net : IsPosedNet c.design name posed) (cells : List (Option ℕ))
    (placement : IsPlacement posed.problem cells) (placed : IsPlaced posed.problem cells) where
  abbrev whole : PlacedNet
  whole = placed_net posed cells

  abbrev split : Split
  split = split_behind c whole

  tree_count : length posed.problem.tree.nodes ≡ length posed.ready.pinned.net.par.nodes
  tree_count = problem_size c.design name posed net

  celled_inner : (w : ℕ) → is_celled split w ≡ true → (old_node split w).inner ≡ true
  celled_inner w celled = place_inner c.design name posed net w (cell_place c.design name posed net cells placed w celled)

  pub is_split : length c.cells < 2 ^ 63 → keeper_of whole < length (heads (forest split)) → IsSplit split
  is_split few keeper = record {
    order = net.ready.a_tree.a_tree.lists;
    tree = tree_count;
    one_each = placement.one_each ∙ tree_count;
    root = no_root_cell c.design name posed net cells placed;
    numbered = λ w b e. omega (arith, placement.named w b e, ap (λ (rs : List Rep). length rs) net.problem.reps, length-map c.design.library.repeaters (λ (r : Repeater). r.rep));
    inner = celled_inner;
    repeaters = is.repeaters;
    keeper = keeper;
    few = omega (arith, few, placement.one_each, posed.problem.within.nodes);
    charge = small_charge c.design name posed net;
    new = record {
      prefix = is.prefix;
      name = name_old c.design c.prefix is.free name posed.ready.pinned.net net.joined net.accepted;
      owners = owners_old c.design c.prefix is.free name posed.ready.pinned.net net.joined net.accepted;
    };
  }
