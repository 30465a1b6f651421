-- A net of a design that is split: its root, its nodes, and the connections of its stages.
use Rattle.std.proofs.Common.{◌≡◌, ◌≢◌, ℕ, ◌+◌, ◌<◌, ◌≤◌, ◌||◌, Bool, true, false, not, cond, List, length, get_or, slice_index, slice_index_or, unwrap_or, refl, sym, ap, ◌∙◌, subst, arith, inl, inr, ◌⊎◌, is_some, Option, Some, None}
use Rattle.std.specs.List.{list_any}
use Rattle.std.proofs.lemmas.Bool.{cases_Bool, cases_eq, cases_lt, false≢true, or_left}
use Rattle.std.proofs.lemmas.List.{get_or-map}
use Rattle.std.proofs.lemmas.List.FromFn.{get_or-map-range_with_len}
use Rattle.elmore.specs.Cells.{rep_at, rep_of}
use Rattle.elmore.specs.Problems.{is_sink, sink_of}
use Rattle.elmore.specs.Trees.{capacitance, node_at as tree_node}
use Rattle.elmore.specs.declared.tree.Node.{Node}
use Rattle.elmore.proofs.HeadLemmas.{head_other}
use Rattle.lib_linear.specs.declared.repeater.Repeater.{Repeater}
use Rattle.spef_net.specs.declared.net.ParNet.{ParNet}
use Rattle.vg_design.specs.Designs.{Design, Joined, name_of, sink_load}
use Rattle.vg_design.specs.Parts.{load_at, loaded, sink_at, sink_given}
use Rattle.vg_split.specs.Splits.{NO_REPEATER, Split, forest, head, is_celled, is_end, old_node, repeater_at}
use Rattle.vg_split.specs.Stages.{heads}
use Rattle.vg_split.proofs.StageLists.{head_below, head_is}
use Rattle.spef_wire.specs.Refusals.{IsNetTree, goes_both_ways}
use Rattle.spef_wire.specs.Wires.{is_sink_node}
use Rattle.spef_write.specs.Sections.{total_at}
use Rattle.split_laws.specs.StagePieces.{IsSplitOf}
use Rattle.split_laws.proofs.AgainLemmas.{sum_total}
use Rattle.split_laws.proofs.ConnLemmas.{IsDriver, driver_is, end_node, no_sink, sink_here}

module _ (d : Design) (n : Joined) (x : Split) (is : IsSplitOf d n x) where
  -- ---- the net

  own_tree : IsNetTree x.par is.tree x.order
  own_tree = subst (λ (p : ParNet). IsNetTree p is.tree x.order) (sym is.par) is.a_tree

  tree_count : length is.tree ≡ length x.problem.tree.nodes
  tree_count = own_tree.a_tree.count ∙ sym is.split.tree

  pub own_one_way : list_any goes_both_ways x.par.conns ≡ false
  own_one_way = ap (λ (p : ParNet). list_any goes_both_ways p.conns) is.par ∙ is.one_way

  -- a node of the tree is one of the net
  pub old_low : (w : ℕ) → w < length x.problem.tree.nodes → slice_index x.order w < length x.par.nodes
  old_low w low = is.split.order.within w (omega (arith, low, is.split.tree))

  pub root_driver : IsDriver x.par (slice_index x.order 0)
  root_driver = subst (IsDriver x.par) (sym own_tree.a_tree.begins) (driver_is x.par own_tree.root own_tree.driven)

  pub root_outer : (old_node x 0).inner ≡ false
  root_outer = end_node x.par (slice_index x.order 0) root_driver.low

  -- the connection at another node of the tree is another
  pub other_old : (w : ℕ) → 0 < w → w < length x.problem.tree.nodes → slice_index x.order w ≢ slice_index x.order 0
  other_old w some low e = is.split.order.once 0 w some (omega (arith, low, is.split.tree)) (sym e)

  pub bare_root : is_celled x 0 ≡ false
  bare_root = ap (λ o. is_some (rep_of x.problem.reps o)) is.split.root

  -- what is at a node of the tree: the net's capacitors and the load of a sink
  pub old_capacitance : (w : ℕ) → w < length x.problem.tree.nodes
      → capacitance x.problem.tree.nodes w ≡ total_at x.par.caps (slice_index x.order w) + load_at d n (slice_index x.order w)
  old_capacitance w low =
      let none : Node = record { parent = w; r = 0; c = 0 } in
      let w_low : w < length is.tree = omega (arith, low, tree_count) in
      let f : ℕ → Node = λ i. loaded d n (tree_node is.tree i) (slice_index x.order i) in
      ap (λ (nodes : List Node). (get_or nodes w none).c) is.problem.tree_is
      ∙ ap (λ (node : Node). node.c) (get_or-map-range_with_len f 0 (length is.tree) w w none w_low (omega arith))
      ∙ ap (λ c. c + load_at d n (slice_index x.order w))
      (own_tree.a_tree.capacitances w (omega (arith, w_low, own_tree.a_tree.count)) ∙ sym (sum_total x.par.caps (slice_index x.order w)))

  -- where a cell is put, no sink stands
  pub cell_sink : (w : ℕ) → w < length x.problem.tree.nodes → is_celled x w ≡ true → is_sink_node x.par (slice_index x.order w) ≡ false
  cell_sink w low has = by (cases_lt (slice_index x.order w) (length x.par.conns))
    where
      by : (slice_index x.order w < length x.par.conns) ⊎ (length x.par.conns ≤ slice_index x.order w) → is_sink_node x.par (slice_index x.order w) ≡ false
      by (inl less) = absurd (false≢true (sym (end_node x.par (slice_index x.order w) less) ∙ is.split.inner w has))
      by (inr later) = no_sink x.par (slice_index x.order w) later

  -- and where none stands, there is no load
  pub no_load : (v : ℕ) → is_sink_node x.par v ≡ false → load_at d n v ≡ 0
  no_load v none =
      ap (λ b. cond b (sink_load d n (name_of n.par v)) 0) (ap (λ (p : ParNet). is_sink_node p v) (sym is.par) ∙ none)

  -- the cell at a node is the repeater there
  pub cell_is : (w : ℕ) → is_celled x w ≡ true → (forest x).cell w ≡ Some (repeater_at x w).rep
  cell_is w has = by (slice_index_or x.cells w None) refl has
    where
      by : (o : Option ℕ) → slice_index_or x.cells w None ≡ o → is_some (rep_of x.problem.reps o) ≡ true
          → rep_of x.problem.reps o ≡ Some (slice_index_or x.repeaters (unwrap_or o 0) NO_REPEATER).rep
      by None e none = absurd (false≢true none)
      by (Some b) e some =
          let low : b < length d.library.repeaters = omega (arith, is.split.numbered w b e, ap (λ (l : List Repeater). length l) is.repeaters) in
          ap Some
          (ap (λ reps. rep_at reps b) is.problem.reps ∙ get_or-map (λ (r : Repeater). r.rep) d.library.repeaters b NO_REPEATER NO_REPEATER.rep low
          ∙ ap (λ (l : List Repeater). (get_or l b NO_REPEATER).rep) (sym is.repeaters))

  -- ---- where a stage begins

  pub head_end : (k : ℕ) → k < length (heads (forest x)) → is_end x (head x k) ≡ true
  head_end k low = elim (cases_Bool (is_celled x (head x k))) [
    | inl has ↦ or_left (is_celled x (head x k)) (not (old_node x (head x k)).inner) has
    | inr bare ↦ elim (cases_eq (head x k) 0) [
      | inl root ↦ ap (is_end x) root ∙ ap (λ b. is_celled x 0 || not b) root_outer ∙ ap (λ b. b || true) bare_root
      | inr other ↦ absurd (false≢true (sym bare ∙ head_other (forest x).cell (head x k) (head_is (forest x) (forest x).n k low) other))
    ]
  ]

  -- a stage without a cell where it begins is the root's
  pub bare_head : (k : ℕ) → k < length (heads (forest x)) → is_celled x (head x k) ≡ false → head x k ≡ 0
  bare_head k low bare = elim (cases_eq (head x k) 0) [
    | inl root ↦ root
    | inr other ↦ absurd (false≢true (sym bare ∙ head_other (forest x).cell (head x k) (head_is (forest x) (forest x).n k low) other))
  ]

  -- ---- sinks

  pub old_sink : (w : ℕ) → w < length x.problem.tree.nodes → sink_of x.problem.sinks w ≡ sink_at d.rows n.par (slice_index x.order w)
  old_sink w low =
      ap (λ sinks. sink_of sinks w) is.problem.sinks
      ∙ get_or-map (sink_at d.rows n.par) x.order w 0 None (omega (arith, low, is.split.order.count, is.split.tree))

  -- a sink stands at a connection
  pub sink_outer : (w : ℕ) → w < length x.problem.tree.nodes → is_sink x.problem.sinks w ≡ true → (old_node x w).inner ≡ false
  sink_outer w low sink = by (cases_lt (slice_index x.order w) (length x.par.conns))
    where
      given : is_sink_node x.par (slice_index x.order w) ≡ true
      given =
          ap (λ (p : ParNet). is_sink_node p (slice_index x.order w)) is.par
          ∙ some (is_sink_node n.par (slice_index x.order w)) (sym (ap (λ o. is_some o) (old_sink w low)) ∙ sink)
        where
          some : (b : Bool) → is_some (cond b (Some (sink_given d.rows (name_of n.par (slice_index x.order w)))) None) ≡ true → b ≡ true
          some true e = refl
          some false e = e

      by : (slice_index x.order w < length x.par.conns) ⊎ (length x.par.conns ≤ slice_index x.order w) → (old_node x w).inner ≡ false
      by (inl less) = end_node x.par (slice_index x.order w) less
      by (inr later) = absurd (false≢true (sym (no_sink x.par (slice_index x.order w) later) ∙ given))

  -- none where a stage begins
  pub head_sink : (k : ℕ) → k < length (heads (forest x)) → sink_of x.problem.sinks (head x k) ≡ None
  head_sink k low = elim (cases_Bool (is_celled x (head x k))) [
    | inl has ↦ none (head x k) (head_below (forest x) (forest x).n k low) (cell_sink (head x k) (head_below (forest x) (forest x).n k low) has)
    | inr bare ↦ ap (sink_of x.problem.sinks) (bare_head k low bare) ∙ none 0 (omega (arith, x.problem.tree.a_tree.some_node)) root_sink
  ]
    where
      none : (w : ℕ) → w < length x.problem.tree.nodes → is_sink_node x.par (slice_index x.order w) ≡ false → sink_of x.problem.sinks w ≡ None
      none w w_low e =
          old_sink w w_low
          ∙ ap (λ b. cond b (Some (sink_given d.rows (name_of n.par (slice_index x.order w)))) None)
          (ap (λ (p : ParNet). is_sink_node p (slice_index x.order w)) (sym is.par) ∙ e)

      root_sink : is_sink_node x.par (slice_index x.order 0) ≡ false
      root_sink = sink_here x.par (slice_index x.order 0) root_driver.low ∙ ap not root_driver.here
