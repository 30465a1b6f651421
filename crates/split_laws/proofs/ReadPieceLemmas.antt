-- The tree of what is read of the net of a stage.
use Rattle.std.proofs.Common.{◌≡◌, ℕ, ◌+◌, ◌-◌, ◌<◌, ◌≤◌, ◌==◌, ◌&&◌, ◌⊎◌, Bool, true, false, not, cond, List, length, get_or, slice_index, refl, sym, ap, ◌∙◌, arith, inl, inr}
use Rattle.std.proofs.lemmas.Bool.{cases_Bool, cases_eq, cases_lt, eq-eqb, false≢true, ne_eqb, or_parts}
use Rattle.std.proofs.lemmas.List.{get_or-append_right, length-append}
use Rattle.std.proofs.lemmas.List.Elements.{filter_passes}
use Rattle.std.proofs.lemmas.List.FromFn.{get_or-map-range_with_len, length-map-range_with_len}
use Rattle.elmore.specs.Trees.{capacitance, node_at as tree_node}
use Rattle.elmore.specs.declared.tree.Node.{Node}
use Rattle.rc_tree.specs.Answers.{IsTreeOf}
use Rattle.spef_net.specs.declared.net.ParNet.{ParNet}
use Rattle.cut_laws.specs.PieceNets.{HasLoads}
use Rattle.cut_laws.proofs.BuiltPieceLemmas.{built_piece}
use Rattle.vg_design.specs.Designs.{Design, Joined, name_of, sink_load}
use Rattle.vg_design.specs.Parts.{load_at, loaded, loaded_tree}
use Rattle.vg_split.specs.Splits.{Split, ends_in, forest, head, inner_in, is_celled, is_end, old_node, repeater_at}
use Rattle.vg_split.specs.Stages.{members}
use Rattle.spef_wire.specs.Refusals.{IsNetTree}
use Rattle.spef_wire.specs.Wires.{is_sink_node}
use Rattle.split_laws.specs.ReadNets.{IsReadOf, number_in, stands_for}
use Rattle.split_laws.specs.ReadPieces.{HasLoadsOf, IsReadPiece, ReadStagesHavePieces, is_sink_in}
use Rattle.split_laws.specs.StagePieces.{by_numbers, load_in}
use Rattle.split_laws.proofs.ConnLemmas.{end_node, no_sink, sink_here}
use Rattle.split_laws.proofs.MemberLemmas.{IsMember}
use Rattle.split_laws.proofs.ReadLemmas.{back_low, end_stands, read_piece, read_same, some_conn, stands_in, stands_is, stands_name}
use Rattle.split_laws.proofs.ReadPassLemmas.{conn_drives, end_count, own_tree}
use Rattle.split_laws.proofs.StageConnLemmas.{IsEndOf, all_ends, conn_count, drives_in, end_sinks, head_drives, kinds, old_conn_low}
use Rattle.split_laws.proofs.StageLemmas.{cell_sink, no_load}

module _ (d : Design) (n : Joined) (x : Split) (k : ℕ) (read : ParNet) (is : IsReadOf d n x k read) where
  -- ---- its sinks

  abbrev back : ℕ → ℕ
  back = number_in is.net read

  chosen : (w : ℕ) (celled first : Bool) → is_celled x w ≡ celled → (w == head x k) ≡ first
      → is_sink_in x k w ≡ cond celled (not first) (is_sink_node x.par (slice_index x.order w))
  chosen w celled first has here = λ i. cond (has i) (not (here i)) (is_sink_node x.par (slice_index x.order w))

  -- an end of the stage is a sink of its net where it does not drive it
  end_sink : (w : ℕ) → IsEndOf x k w → not (drives_in x k w) ≡ is_sink_in x k w
  end_sink w end = elim (cases_Bool (is_celled x w)) [
    | inl has ↦ elim (cases_eq w (head x k)) [
      | inl first ↦
          ap not (ap (drives_in x k) first ∙ head_drives d n x is.stage.split k is.stage.number) ∙ sym (chosen w true true has (eq-eqb w (head x k) first))
      | inr other ↦ ap not (end_sinks d n x is.stage.split k is.stage.number w end other) ∙ sym (chosen w true false has (ne_eqb w (head x k) other))
    ]
    | inr bare ↦
        ap not (kinds d n x is.stage.split k is.stage.number w false (w == head x k) bare refl)
        ∙ sym (sink_here x.par (slice_index x.order w) (old_conn_low d n x is.stage.split k is.stage.number w end bare))
        ∙ sym (chosen w false (w == head x k) bare refl)
  ]

  -- an inner node of the stage is none
  inner_sink : (w : ℕ) → is_end x w ≡ false → is_sink_in x k w ≡ false
  inner_sink w none =
      let (bare, own) = or_parts (is_celled x w) (not (old_node x w).inner) none in
      chosen w false (w == head x k) bare refl ∙ no_sink x.par (slice_index x.order w) (past own (cases_lt (slice_index x.order w) (length x.par.conns)))
    where
      past : not (old_node x w).inner ≡ false → (slice_index x.order w < length x.par.conns) ⊎ (length x.par.conns ≤ slice_index x.order w)
          → length x.par.conns ≤ slice_index x.order w
      past own (inl less) = absurd (false≢true (sym own ∙ ap not (end_node x.par (slice_index x.order w) less)))
      past own (inr later) = later

  pub sinks_are : (j : ℕ) → j < length read.nodes → is_sink_node read j ≡ is_sink_in x k (stands_for x k read j)
  sinks_are j j_low = elim (cases_lt j (length read.conns)) [
    | inl less ↦ at_end less
    | inr later ↦ no_sink read j later ∙ sym (inside later)
  ]
    where
      at_end : j < length read.conns → is_sink_node read j ≡ is_sink_in x k (stands_for x k read j)
      at_end less =
          let e_low : j < length (ends_in x k) = omega (arith, less, end_count d n x k read is) in
          let w_is : stands_for x k read j ≡ slice_index (ends_in x k) j = end_stands d n x k read is j j_low e_low in
          sink_here read j less ∙ ap not (conn_drives d n x k read is j e_low)
          ∙ end_sink (slice_index (ends_in x k) j) (all_ends x k j 0 e_low) ∙ ap (is_sink_in x k) (sym w_is)

      inside : length read.conns ≤ j → is_sink_in x k (stands_for x k read j) ≡ false
      inside later =
          let ends = ends_in x k in
          let high : length ends ≤ back j = far later (cases_lt (back j) (length ends)) in
          let n_low = back_low d n x k read is j j_low in
          let i_low : back j - length ends < length (inner_in x k) = omega (arith, high, n_low, length-append ends (inner_in x k)) in
          let w_is : stands_for x k read j ≡ slice_index (inner_in x k) (back j - length ends)
          = stands_is d n x k read is j j_low ∙ get_or-append_right ends (inner_in x k) (length ends) (back j) 0 refl high in
          ap (is_sink_in x k) w_is
          ∙ inner_sink (slice_index (inner_in x k) (back j - length ends))
          (not_true (is_end x (slice_index (inner_in x k) (back j - length ends)))
          (filter_passes (λ w. not (is_end x w)) (members (forest x) (head x k)) (back j - length ends) 0 i_low))
        where
          not_true : (b : Bool) → not b ≡ true → b ≡ false
          not_true true e = absurd (false≢true e)
          not_true false e = refl

          -- a number that is no connection's stands for one that is none
          far : length read.conns ≤ j → (back j < length (ends_in x k)) ⊎ (length (ends_in x k) ≤ back j) → length (ends_in x k) ≤ back j
          far later (inr past) = past
          far later (inl less) =
              let same = read_same d n x k read is in
              let numbers = same.renumbered 0 (some_conn d n x k read is) in
              let there : number_in read is.net (back (back j)) ≡ back j = numbers.there (back j) (numbers.within_back j (omega (arith, j_low, numbers.nodes))) in
              let here : number_in read is.net (back j) ≡ j = numbers.there j (omega (arith, j_low, numbers.nodes)) in
              let stays : back (back j) ≡ back j = same.ends (back j) (omega (arith, less, conn_count x k is.net.conns is.stage.of_stage.conns)) in
              absurd (omega (arith, later, less, end_count d n x k read is, sym here ∙ ap (number_in read is.net) (sym stays) ∙ there))

module _ (d : Design) (n : Joined) (x : Split) (k : ℕ) (new : Design) (net : Joined) (is : IsReadOf d n x k net.par) (loads : HasLoadsOf d n x k new net)
    (tree : List Node) (order : List ℕ) (a_tree : IsNetTree net.par tree order) where
  -- a node that is no sink has no load
  unloaded : (w : ℕ) → w < length x.problem.tree.nodes → is_sink_in x k w ≡ false → load_in d n x k w ≡ 0
  unloaded w w_low none = elim (cases_Bool (is_celled x w)) [
    | inl has ↦
        let first : not (w == head x k) ≡ false
        = sym (ap (λ b. cond b (not (w == head x k)) (is_sink_node x.par (slice_index x.order w))) has) ∙ none in
        ap (λ b. cond (is_celled x w && b) (cin w) (load w)) first ∙ ap (λ b. cond (b && false) (cin w) (load w)) has
        ∙ no_load d n x is.stage.split (slice_index x.order w) (cell_sink d n x is.stage.split w w_low has)
    | inr bare ↦
        ap (λ b. cond (b && not (w == head x k)) (cin w) (load w)) bare
        ∙ no_load d n x is.stage.split (slice_index x.order w) (sym (ap (λ b. cond b (not (w == head x k)) (is_sink_node x.par (slice_index x.order w))) bare) ∙ none)
  ]
    where
      cin : ℕ → ℕ
      cin w = (repeater_at x w).rep.cin

      load : ℕ → ℕ
      load w = load_at d n (slice_index x.order w)

  -- each node has the load of its node in the stage
  loads_are : (j : ℕ) → j < length net.par.nodes → load_at new net j ≡ load_in d n x k (stands_for x k net.par j)
  loads_are j j_low =
      let w = stands_for x k net.par j in
      let w_in : IsMember x k w = stands_in d n x k net.par is j j_low in
      let sink : is_sink_node net.par j ≡ is_sink_in x k w = sinks_are d n x k net.par is j j_low in
      elim (cases_Bool (is_sink_in x k w)) [
        | inl driven ↦
            ap (λ b. cond b (sink_load new net (name_of net.par j)) 0) (sink ∙ driven)
            ∙ ap (sink_load new net) (sym (stands_name d n x k net.par is j j_low)) ∙ loads w w_in.low w_in.inside driven
        | inr none ↦ ap (λ b. cond b (sink_load new net (name_of net.par j)) 0) (sink ∙ none) ∙ sym (unloaded w w_in.low none)
      ]

  -- the tree with the loads of the pins
  own : IsTreeOf (length net.par.nodes) 0 net.par.caps net.par.ress tree order
  own = own_tree d n x k net.par is tree order a_tree

  has_loads : HasLoads tree order (λ j. load_in d n x k (stands_for x k net.par j)) (loaded_tree new net tree order)
  has_loads = record {
    count = length-map-range_with_len f 0 (length tree);
    parents = λ i low. ap (λ (node : Node). node.parent) (at i i low);
    resistances = λ i low. ap (λ (node : Node). node.r) (at i i low);
    capacitances = λ i low.
        ap (λ (node : Node). node.c) (at i i low)
        ∙ ap (λ c. capacitance tree i + c) (loads_are (slice_index order i) (own.lists.within i (omega (arith, low, own.count))));
  }
    where
      f : ℕ → Node
      f i = loaded new net (tree_node tree i) (slice_index order i)

      at : (i p : ℕ) → i < length tree → get_or (loaded_tree new net tree order) i (record { parent = p; r = 0; c = 0 }) ≡ f i
      at i p low = get_or-map-range_with_len f 0 (length tree) i i (record { parent = p; r = 0; c = 0 }) low (omega arith)

  pub is_read_piece : IsReadPiece x k new net tree order
  is_read_piece = record {
    a_tree = a_tree;
    piece =
        built_piece (forest x) (head x k) (by_numbers net.par 0) (λ j. load_in d n x k (stands_for x k net.par j)) (stands_for x k net.par)
        (read_piece d n x k net.par is) tree (loaded_tree new net tree order) order own has_loads;
    names = stands_name d n x k net.par is;
    sinks = sinks_are d n x k net.par is;
  }

pub read_stages_have_pieces : ReadStagesHavePieces
read_stages_have_pieces d n x k new net is loads tree order a_tree = is_read_piece d n x k new net is loads tree order a_tree
