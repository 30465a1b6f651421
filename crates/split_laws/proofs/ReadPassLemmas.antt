-- What is read of the net of a stage is driven by its first connection alone, and has a tree.
use Rattle.std.proofs.Common.{◌≡◌, ◌≢◌, ℕ, ◌<◌, ◌||◌, Bool, true, false, not, List, [], ◌∷◌, length, get_or, map, slice_index, refl, sym, ap, ◌∙◌, subst, arith, inl, inr}
use Rattle.std.specs.List.{list_any, range_with_len}
use Rattle.std.proofs.lemmas.Bool.{false≢true, or_left}
use Rattle.std.proofs.lemmas.List.{ext_get_or, get_or_default, get_or-map, length-map}
use Rattle.std.proofs.lemmas.List.Elements.{All-from_get_or}
use Rattle.std.proofs.lemmas.List.Folds.{list_any_at, list_any_none}
use Rattle.elmore.specs.declared.tree.Node.{Node}
use Rattle.elmore.proofs.StageThroughLemmas.{end_inner}
use Rattle.rc_tree.specs.Answers.{IsTreeOf}
use Rattle.spef_net.specs.declared.net.ParConn.{ParConn}
use Rattle.spef_net.specs.declared.net.ParNet.{ParNet}
use Rattle.cut_laws.specs.CutNets.{IsDriven}
use Rattle.cut_laws.specs.PieceNets.{IsPieceNet}
use Rattle.cut_laws.proofs.BuiltPieceLemmas.{piece_joined}
use Rattle.cut_laws.proofs.PieceLemmas.{end_in_piece, stage_in_piece}
use Rattle.cut_laws.proofs.PieceSinkLemmas.{piece_sinks}
use Rattle.cut_laws.proofs.SomeTreeLemmas.{some_tree}
use Rattle.vg_design.specs.Designs.{Design, Joined, ends_of, name_of}
use Rattle.vg_scan.specs.declared.name.NodeName.{NodeName}
use Rattle.vg_split.specs.Splits.{NO_CONN, Split, conn_in, ends_in, forest, head, is_celled, is_end, name_in, old_node}
use Rattle.vg_split.specs.Stages.{members}
use Rattle.vg_split.proofs.StageLists.{head_below, head_is}
use Rattle.spef_wire.specs.Refusals.{IsDrivenAt, IsNetTree, PassesUpTo, drives, drivers_of, goes_both_ways, is_sink}
use Rattle.spef_wire.specs.declared.refusal.Refusal.TheVariants.{UnknownNet, Section, Reduced, Inductive, Bidirectional, NoDriver, ManyDrivers, Mismatch, Tied, NoDrive, NoLoad, Floating, Loop, NoSink, Unconstrained, TooLarge}
use Rattle.spef_wire.proofs.PassLemmas.{passes_loop, passes_sink, root_once}
use Rattle.spef_write.proofs.ClearLemmas.{conn_number}
use Rattle.split_laws.specs.ReadNets.{IsReadOf, stands_for}
use Rattle.split_laws.specs.ReadPieces.{HasTree, IsReadStage, ReadStagesAreAccepted}
use Rattle.split_laws.specs.StagePieces.{by_numbers, load_in}
use Rattle.split_laws.proofs.ConnLemmas.{one_first}
use Rattle.split_laws.proofs.ListLemmas.{contains_filter}
use Rattle.split_laws.proofs.MemberLemmas.{IsMember, ends_first, ends_rise, falls, member, some_end}
use Rattle.split_laws.proofs.ReadLemmas.{end_stands, read_piece, read_same, stands_name}
use Rattle.split_laws.proofs.StageConnLemmas.{IsEndOf, all_ends, conn_count, conn_is, drives_in, end_one_way, end_sinks, head_drives}
use Rattle.split_laws.proofs.StageLemmas.{head_end, head_sink, sink_outer}

module _ (d : Design) (n : Joined) (x : Split) (k : ℕ) (read : ParNet) (is : IsReadOf d n x k read) where
  -- ---- its connections

  pub conns_are : read.conns ≡ map (conn_in x k) (range_with_len 0 (length (ends_in x k)))
  conns_are = (read_same d n x k read is).conns ∙ is.stage.of_stage.conns

  pub end_count : length read.conns ≡ length (ends_in x k)
  end_count = conn_count x k read.conns conns_are

  end_is : (i : ℕ) → i < length (ends_in x k) → IsEndOf x k (slice_index (ends_in x k) i)
  end_is i i_low = all_ends x k i 0 i_low

  pub conn_drives : (i : ℕ) → i < length (ends_in x k) → drives (get_or read.conns i NO_CONN) ≡ drives_in x k (slice_index (ends_in x k) i)
  conn_drives i i_low = ap (λ (c : ParConn). drives c) (conn_is x k read.conns conns_are i i_low)

  some : 0 < length (ends_in x k)
  some = some_end x k is.stage.number (head_end d n x is.stage.split k is.stage.number)

  begins : slice_index (ends_in x k) 0 ≡ head x k
  begins = ends_first x k is.stage.number (head_end d n x is.stage.split k is.stage.number)

  -- the first alone drives
  alone : drivers_of read ≡ conn_in x k 0 ∷ []
  alone =
      one_first drives read.conns NO_CONN (omega (arith, some, end_count))
      (conn_drives 0 some ∙ ap (drives_in x k) begins ∙ head_drives d n x is.stage.split k is.stage.number)
      (λ i i_some i_low.
      let e_low : i < length (ends_in x k) = omega (arith, i_low, end_count) in
      conn_drives i e_low
      ∙ end_sinks d n x is.stage.split k is.stage.number (slice_index (ends_in x k) i) (end_is i e_low) (λ e. omega (arith, ends_rise x k 0 i 0 i_some e_low, begins, e)))
      ∙ ap (λ (c : ParConn). c ∷ []) (conn_is x k read.conns conns_are 0 some)

  driven : IsDrivenAt read 0
  driven = record { driver = conn_in x k 0; alone = alone; at = refl }

  one_way : list_any goes_both_ways read.conns ≡ false
  one_way =
      list_any_none goes_both_ways read.conns (All-from_get_or (λ (c : ParConn). goes_both_ways c ≡ false) read.conns NO_CONN (λ i i_low.
      let e_low : i < length (ends_in x k) = omega (arith, i_low, end_count) in
      ap (λ (c : ParConn). goes_both_ways c) (conn_is x k read.conns conns_are i e_low)
      ∙ end_one_way d n x is.stage.split k is.stage.number (slice_index (ends_in x k) i) (end_is i e_low)))

  -- ---- what does not refuse it

  pass_12 : PassesUpTo 12 read
  pass_12 UnknownNet few h = h
  pass_12 (Section fault) few h = h
  pass_12 Reduced few h = false≢true (sym is.again.whole ∙ h)
  pass_12 Inductive few h = false≢true (sym is.again.plain ∙ h)
  pass_12 Bidirectional few h = false≢true (sym one_way ∙ h)
  pass_12 NoDriver few h = omega (arith, ap (λ (l : List ParConn). length l) (sym alone ∙ h))
  pass_12 ManyDrivers few h = omega (arith, ap (λ (l : List ParConn). length l) alone, h)
  pass_12 Mismatch few h = h
  pass_12 Tied few h = h
  pass_12 NoDrive few h = h
  pass_12 (NoLoad name) few h = h
  pass_12 (Floating name) few h = absurd (omega (arith, few))
  pass_12 Loop few h = absurd (omega (arith, few))
  pass_12 NoSink few h = absurd (omega (arith, few))
  pass_12 (Unconstrained name) few h = absurd (omega (arith, few))
  pass_12 TooLarge few h = absurd (omega (arith, few))

  piece : IsPieceNet (forest x) (head x k) (by_numbers read 0) (λ j. load_in d n x k (stands_for x k read j)) (stands_for x k read)
  piece = read_piece d n x k read is

  has_tree : HasTree read
  has_tree =
      let (tree, order, a_tree) = some_tree (length read.nodes) 0 read.caps read.ress piece.root_node
      (λ j j_low. (piece.from_nodes j j_low, piece.to_nodes j j_low))
      (piece_joined (forest x) (head x k) (by_numbers read 0) (λ j. load_in d n x k (stands_for x k read j)) (stands_for x k read) (falls x) piece) piece.count in
      record { tree = tree; order = order; a_tree = record { root = 0; driven = driven; a_tree = a_tree } }

  -- a node where something is driven has a connection, which is a sink
  a_sink : (w : ℕ) → IsMember x k w → w ≢ head x k → is_end x w ≡ true → list_any is_sink read.conns ≡ true
  a_sink w w_in other end =
      let (i, i_low, at) = contains_filter (is_end x) (members (forest x) (head x k)) w (member x k w w_in) end in
      let w_is : slice_index (ends_in x k) i ≡ w = get_or_default (ends_in x k) i 0 w i_low ∙ at in
      list_any_at is_sink read.conns i NO_CONN (omega (arith, i_low, end_count))
      (ap not (conn_drives i i_low ∙ ap (drives_in x k) w_is ∙ end_sinks d n x is.stage.split k is.stage.number w (record { member = w_in; end = end }) other))

  has_sink : list_any is_sink read.conns ≡ true
  has_sink =
      let (w, at) = piece_sinks x.problem x.cells is.stage.split.placed (head x k)
      (record { node = head_below (forest x) (forest x).n k is.stage.number; head = head_is (forest x) (forest x).n k is.stage.number }) (head_sink d n x is.stage.split k is.stage.number) in
      by w at
    where
      by : (w : ℕ) → IsDriven x.problem x.cells (head x k) w → list_any is_sink read.conns ≡ true
      by w at = elim at.stands [
        | inl (inside, sink) ↦
            a_sink w (record { low = at.node; inside = stage_in_piece (forest x) (head x k) w inside }) at.below
            (outer (is_celled x w) (old_node x w).inner (sink_outer d n x is.stage.split w at.node sink))
        | inr ends ↦
            a_sink w (record { low = at.node; inside = end_in_piece (forest x) (head x k) w ends }) at.below
            (or_left (is_celled x w) (not (old_node x w).inner) (end_inner (forest x).parent (forest x).cell (falls x) (head x k) w ends).here)
      ]
        where
          outer : (celled inner : Bool) → inner ≡ false → (celled || not inner) ≡ true
          outer true inner e = refl
          outer false inner e = ap not e

  -- a tree is one from the first connection
  pub own_tree : (tree : List Node) (order : List ℕ) → IsNetTree read tree order → IsTreeOf (length read.nodes) 0 read.caps read.ress tree order
  own_tree tree order a_tree =
      subst (λ (r : ℕ). IsTreeOf (length read.nodes) r read.caps read.ress tree order) (root_once read a_tree.root 0 a_tree.driven driven) a_tree.a_tree

  passes : PassesUpTo 15 read
  passes = passes_sink read (passes_loop read 0 has_tree.tree has_tree.order pass_12 driven (own_tree has_tree.tree has_tree.order has_tree.a_tree)) has_sink

  -- ---- the names of its connections

  ends_are : ends_of read ≡ map (name_in x k) (ends_in x k)
  ends_are = ext_get_or (name_of read 0) (ends_of read) (map (name_in x k) (ends_in x k)) count each
    where
      of : ParConn → NodeName
      of conn = name_of read conn.node

      count : length (map of read.conns) ≡ length (map (name_in x k) (ends_in x k))
      count = length-map read.conns of ∙ end_count ∙ sym (length-map (ends_in x k) (name_in x k))

      each : (i : ℕ) → i < length (map of read.conns)
          → get_or (map of read.conns) i (name_of read 0) ≡ get_or (map (name_in x k) (ends_in x k)) i (name_of read 0)
      each i i_low =
          let c_low : i < length read.conns = omega (arith, i_low, length-map read.conns of) in
          let e_low : i < length (ends_in x k) = omega (arith, c_low, end_count) in
          let n_low : i < length read.nodes = omega (arith, c_low, read.sound.joined.few) in
          get_or-map of read.conns i NO_CONN (name_of read 0) c_low
          ∙ ap (name_of read) (conn_number read i NO_CONN c_low)
          ∙ sym (stands_name d n x k read is i n_low)
          ∙ ap (name_in x k) (end_stands d n x k read is i n_low e_low)
          ∙ sym (get_or-map (name_in x k) (ends_in x k) i 0 (name_of read 0) e_low)

  pub is_read_stage : IsReadStage x k read
  is_read_stage = record {
    conns = conns_are;
    ends = ends_are;
    driver = alone;
    begins = begins;
    accepted = passes;
    tree = has_tree;
  }

pub read_stages_are_accepted : ReadStagesAreAccepted
read_stages_are_accepted d n x k read is = is_read_stage d n x k read is
