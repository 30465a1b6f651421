-- The net of a stage is the piece of the node where the stage begins.
use Rattle.std.proofs.Common.{◌≡◌, ◌≢◌, ℕ, zero, suc, ◌+◌, ◌<◌, ◌==◌, ◌&&◌, Bool, true, false, not, cond, List, ◌++◌, drop, length, get_or, slice_index, refl, sym, ap, ◌∙◌, subst, arith, inl, inr}
use Rattle.std.specs.List.{Contains}
use Rattle.std.proofs.lemmas.List.{get_or_append_left, get_or_default, get_or-drop, get_or-map, length-drop, length-map}
use Rattle.elmore.specs.Cells.{input_capacitance}
use Rattle.elmore.specs.Trees.{parent_of}
use Rattle.rc_tree.specs.Chains.{edge_at}
use Rattle.rc_tree.specs.Nets.{capacitance_at}
use Rattle.spef_net.specs.declared.net.ParNet.{ParNet}
use Rattle.spef_nodes.specs.Nodes.{ParNode}
use Rattle.cut_laws.specs.PieceNets.{IsPieceNet, IsWireOf}
use Rattle.cut_laws.specs.Pieces.{piece_capacitance}
use Rattle.cut_laws.proofs.PieceLemmas.{piece_cases}
use Rattle.vg_design.specs.Designs.{Design, Joined, NO_NODE, name_of}
use Rattle.vg_design.specs.Parts.{load_at}
use Rattle.vg_split.specs.Splits.{Split, cap_in, ends_in, forest, head, inner_in, is_celled, name_in, node_in, nodes_in, repeater_at, res_in}
use Rattle.vg_split.specs.Stages.{members}
use Rattle.spef_write.specs.Sections.{total_at}
use Rattle.spef_write.proofs.ClearLemmas.{one_node}
use Rattle.split_laws.specs.StagePieces.{IsNetOfStage, StageNetsArePieces, by_numbers, load_in}
use Rattle.split_laws.proofs.AgainLemmas.{sum_total}
use Rattle.split_laws.proofs.KindLemmas.{end_kind, ends_at, inside_kind, is_inside}
use Rattle.split_laws.proofs.MemberLemmas.{IsMember, all_members, all_nodes, as_many_nodes, ends_first, first_member, head_member, listed, member, members_rise, parent_member, place_is, some_end}
use Rattle.split_laws.proofs.StageLemmas.{cell_is, head_end, old_capacitance}

module _ (d : Design) (n : Joined) (x : Split) (k : ℕ) (net : ParNet) (is : IsNetOfStage d n x k net) where
  abbrev ns : List ℕ
  ns = nodes_in x k

  abbrev ws : List ℕ
  ws = members (forest x) (head x k)

  pub node_count : length net.nodes ≡ length ns
  node_count = ap (λ (l : List ParNode). length l) is.of_stage.nodes ∙ length-map ns (node_in is.chars x k)

  pub node_is : (i : ℕ) → i < length ns → get_or net.nodes i NO_NODE ≡ node_in is.chars x k (slice_index ns i)
  node_is i i_low = ap (λ (l : List ParNode). get_or l i NO_NODE) is.of_stage.nodes ∙ get_or-map (node_in is.chars x k) ns i 0 NO_NODE i_low

  pub name_is : (i : ℕ) → i < length ns → name_of net i ≡ name_in x k (slice_index ns i)
  name_is i i_low = ap (λ (node : ParNode). node.name) (node_is i i_low)

  -- its nodes are different
  pub stands_once : (i j : ℕ) → i < length ns → j < length ns → slice_index ns i ≡ slice_index ns j → i ≡ j
  stands_once i j i_low j_low same =
      one_node net i j (omega (arith, i_low, node_count)) (omega (arith, j_low, node_count)) (name_is i i_low ∙ ap (name_in x k) same ∙ sym (name_is j j_low))

  pub some_node : 0 < length ns
  some_node = let (i, i_low, at) = listed x k (head x k) (head_member x k is.number) in omega (arith, i_low)

  -- it is driven from the first one
  pub root_stands : slice_index ns 0 ≡ head x k
  root_stands =
      let ends = ends_in x k in
      let inner = inner_in x k in
      let first = ends_first x k is.number (head_end d n x is.split k is.number) in
      by ends inner first (some_end x k is.number (head_end d n x is.split k is.number))
    where
      by : (ends inner : List ℕ) → slice_index ends 0 ≡ head x k → 0 < length ends → slice_index (ends ++ inner) 0 ≡ head x k
      by ends inner first some = get_or_append_left ends inner 0 0 some ∙ first

  -- ---- resistors

  pub res_count : length net.ress + 1 ≡ length ws
  res_count =
      omega (arith, ap (λ (l : List (ℕ × ℕ × ℕ)). length l) is.of_stage.ress, length-map (drop 1 ws) (res_in x k), length-drop 1 ws, as_many_nodes x k, some_node)

  res_is : (j : ℕ) → j < length net.ress → edge_at net.ress j ≡ res_in x k (slice_index ws (1 + j))
  res_is j j_low =
      let d_low : j < length (drop 1 ws) = omega (arith, j_low, res_count, length-drop 1 ws) in
      ap (λ (l : List (ℕ × ℕ × ℕ)). get_or l j (0, 0, 0)) is.of_stage.ress ∙ get_or-map (res_in x k) (drop 1 ws) j 0 (0, 0, 0) d_low
      ∙ ap (res_in x k) (get_or-drop 1 ws j 0)

  below : (j : ℕ) → 1 + j < length ws → slice_index ws (1 + j) ≢ head x k
  below j j_low e = omega (arith, members_rise x k 0 (1 + j) 0 (omega arith) j_low, first_member x k is.number, e)

  wire_at : (j : ℕ) → j < length net.ress → IsWireOf (forest x) (head x k) (slice_index ns) (slice_index ws (1 + j)) (edge_at net.ress j)
  wire_at j j_low =
      let w = slice_index ws (1 + j) in
      let w_low : 1 + j < length ws = omega (arith, j_low, res_count) in
      let w_in : IsMember x k w = all_members x k (1 + j) 0 w_low in
      let w_below = below j w_low in
      subst (IsWireOf (forest x) (head x k) (slice_index ns) w) (sym (res_is j j_low)) (record {
        below = w_below;
        joins = inl (place_is x k (parent_of x.problem.tree.nodes w) (parent_member x k w w_in w_below), place_is x k w w_in);
        resistor = refl;
      })

  -- above each node but the first
  pub wired_at : (w : ℕ) → IsMember x k w → w ≢ head x k
      → (j : ℕ) × (j < length net.ress) × IsWireOf (forest x) (head x k) (slice_index ns) w (edge_at net.ress j)
  wired_at w w_in other = by (member x k w w_in)
    where
      by : Contains ws w → (j : ℕ) × (j < length net.ress) × IsWireOf (forest x) (head x k) (slice_index ns) w (edge_at net.ress j)
      by (zero, i_low, at) = absurd (other (sym (get_or_default ws 0 0 w i_low ∙ at) ∙ first_member x k is.number))
      by (suc i, i_low, at) =
          let j_low : i < length net.ress = omega (arith, i_low, res_count) in
          let same : suc i ≡ 1 + i = omega arith in
          let w_is : slice_index ws (1 + i) ≡ w = ap (slice_index ws) (sym same) ∙ get_or_default ws (suc i) 0 w i_low ∙ at in
          (i, j_low, subst (λ u. IsWireOf (forest x) (head x k) (slice_index ns) u (edge_at net.ress i)) w_is (wire_at i j_low))

  -- ---- capacitances

  capacitance_is : (i : ℕ) → i < length ns
      → capacitance_at net.caps i + load_in d n x k (slice_index ns i) ≡ piece_capacitance (forest x) (head x k) (slice_index ns i)
  capacitance_is i i_low =
      ap (λ c. c + load_in d n x k w) (sym (sum_total net.caps i) ∙ is.of_stage.caps i i_low) ∙ elim (piece_cases (forest x) (head x k) w w_in.inside) [
        | inl inside ↦ own inside
        | inr ends ↦ cell ends
      ]
    where
      w : ℕ
      w = slice_index ns i

      w_in : IsMember x k w
      w_in = all_nodes x k i 0 i_low

      old : ℕ
      old = total_at x.par.caps (slice_index x.order w)

      cin : ℕ
      cin = (repeater_at x w).rep.cin

      load : ℕ
      load = load_at d n (slice_index x.order w)

      -- at a cell that ends the stage, or at another node
      sum_cell : (celled first : Bool) → (celled && not first) ≡ true → cond (celled && not first) 0 old + cond (celled && not first) cin load ≡ cin
      sum_cell celled first e = ap (λ b. cond b 0 old + cond b cin load) e ∙ (let z : 0 + cin ≡ cin = omega arith in z)

      sum_own : (celled first : Bool) → (celled && not first) ≡ false → cond (celled && not first) 0 old + cond (celled && not first) cin load ≡ old + load
      sum_own celled first e = ap (λ b. cond b 0 old + cond b cin load) e

      cell : ends_at x k w ≡ true → cap_in x k w + load_in d n x k w ≡ piece_capacitance (forest x) (head x k) w
      cell ends =
          let end = end_kind x k w ends in
          sum_cell (is_celled x w) (w == head x k) end.kind
          ∙ sym (ap (λ o. input_capacitance o) (cell_is d n x is.split w end.celled))
          ∙ ap (λ b. cond b ((forest x).c w) (input_capacitance ((forest x).cell w))) (sym end.outside)

      own : is_inside x k w ≡ true → cap_in x k w + load_in d n x k w ≡ piece_capacitance (forest x) (head x k) w
      own inside =
          sum_own (is_celled x w) (w == head x k) (inside_kind x k w inside)
          ∙ sym (old_capacitance d n x is.split w w_in.low)
          ∙ ap (λ b. cond b ((forest x).c w) (input_capacitance ((forest x).cell w))) (sym inside)

  pub stage_piece : IsPieceNet (forest x) (head x k) (by_numbers net 0) (λ i. load_in d n x k (slice_index ns i)) (slice_index ns)
  stage_piece = record {
    root_node = omega (arith, some_node, node_count);
    root_stands = root_stands;
    within = λ i i_low. (all_nodes x k i 0 (node i i_low)).low;
    inside = λ i i_low. (all_nodes x k i 0 (node i i_low)).inside;
    once = λ i j i_low j_low same. stands_once i j (node i i_low) (node j j_low) same;
    each = λ w w_low inside. (
        let (i, i_low, at) = listed x k w (record { low = w_low; inside = inside }) in
        (i, omega (arith, i_low, node_count), get_or_default ns i 0 w i_low ∙ at)
        );
    from_nodes = λ j j_low. (net.sound.ress_at j (0, 0, 0) j_low).0;
    to_nodes = λ j j_low. (net.sound.ress_at j (0, 0, 0) j_low).1;
    wires = λ j j_low. (slice_index ws (1 + j), wire_at j j_low);
    wired = λ i i_low other. wired_at (slice_index ns i) (all_nodes x k i 0 (node i i_low)) other;
    count = omega (arith, res_count, node_count, as_many_nodes x k);
    capacitances = λ i i_low. capacitance_is i (node i i_low);
  }
    where
      node : (i : ℕ) → i < length net.nodes → i < length ns
      node i i_low = omega (arith, i_low, node_count)

pub stage_nets_are_pieces : StageNetsArePieces
stage_nets_are_pieces d n x k net is = stage_piece d n x k net is
