-- What is read of the net of a stage is the piece of the node where the stage begins.
use Rattle.std.proofs.Common.{◌≡◌, ℕ, ◌+◌, ◌<◌, ◌≤◌, ◌^◌, ◌==◌, ◌||◌, ◌⊎◌, Bool, true, not, List, length, slice_index, sym, ap, ◌∙◌, subst, arith, inl, inr}
use Rattle.std.specs.List.{list_any}
use Rattle.std.proofs.lemmas.Bool.{cases_eq, eq-eqb, or_left, or_right}
use Rattle.std.proofs.lemmas.List.{get_or_append_left, get_or_default}
use Rattle.std.proofs.lemmas.List.Elements.{All-contains}
use Rattle.std.proofs.lemmas.List.Folds.{list_any_at}
use Rattle.rc_tree.specs.Chains.{edge_at}
use Rattle.rc_tree.specs.Nets.{capacitance_at}
use Rattle.spef_net.specs.declared.net.ParNet.{ParNet}
use Rattle.spef_nodes.specs.Nodes.{ParNode}
use Rattle.spef_nodes.proofs.NodeListLemmas.{same_is}
use Rattle.spef_nodes.proofs.NodeTableLemmas.{same_refl}
use Rattle.cut_laws.specs.PieceNets.{IsPieceNet, IsWireOf, NumberedNet}
use Rattle.cut_laws.specs.Pieces.{Forest, in_piece, piece_capacitance}
use Rattle.cut_laws.proofs.RenumberedLemmas.{renumbered}
use Rattle.vg_design.specs.Designs.{Design, Joined, name_of}
use Rattle.vg_scan.specs.Nodes.{same_node}
use Rattle.vg_split.specs.Splits.{Split, ends_in, forest, head, inner_in, is_end, name_in, nodes_in}
use Rattle.vg_split.specs.Stages.{members}
use Rattle.spef_write.specs.Sections.{node_at, total_at}
use Rattle.spef_write.specs.SectionLaws.{is_named}
use Rattle.spef_write.proofs.ClearLemmas.{one_node}
use Rattle.split_laws.specs.ReadNets.{IsReadOf, IsSameByNames, ReadStagesArePieces, ReadStagesAreTheSame, node_named, number_in, stands_for}
use Rattle.split_laws.specs.StagePieces.{IsNetOfStage, by_numbers, load_in}
use Rattle.split_laws.proofs.AgainLemmas.{same_by_names}
use Rattle.split_laws.proofs.ListLemmas.{IsFirst, first}
use Rattle.split_laws.proofs.MemberLemmas.{IsMember, all_members, all_nodes, listed, member, some_end}
use Rattle.split_laws.proofs.StageConnLemmas.{conn_count}
use Rattle.split_laws.proofs.StageLemmas.{head_end}
use Rattle.split_laws.proofs.StagePieceLemmas.{name_is, node_count, node_is, stage_piece, stands_once, wired_at}

-- a piece, where its nodes stand for the same by another function
same_piece : (f : Forest) (v : ℕ) (net : NumberedNet) (loads stands weights others : ℕ → ℕ) → IsPieceNet f v net loads stands
    → ((k : ℕ) → k < net.nodes → others k ≡ stands k) → ((k : ℕ) → k < net.nodes → weights k ≡ loads k) → IsPieceNet f v net weights others
same_piece f v net loads stands weights others p same loaded = record {
  root_node = p.root_node;
  root_stands = same net.root p.root_node ∙ p.root_stands;
  within = λ k low. omega (arith, same k low, p.within k low);
  inside = λ k low. ap (in_piece f v) (same k low) ∙ p.inside k low;
  once = λ k l k_low l_low e. p.once k l k_low l_low (sym (same k k_low) ∙ e ∙ same l l_low);
  each = λ w low inside. (let (k, k_low, at) = p.each w low inside in (k, k_low, same k k_low ∙ at));
  from_nodes = p.from_nodes;
  to_nodes = p.to_nodes;
  wires = λ j low. (let (w, of) = p.wires j low in (w, wire j low w of));
  wired = λ k low other. (
      let (j, j_low, of) = p.wired k low (λ e. other (same k low ∙ e)) in
      (j, j_low, subst (λ w. IsWireOf f v others w (edge_at net.edges j)) (sym (same k low)) (wire j j_low (stands k) of))
      );
  count = p.count;
  capacitances = λ k low.
      ap (λ c. capacitance_at net.caps k + c) (loaded k low) ∙ p.capacitances k low ∙ ap (piece_capacitance f v) (sym (same k low));
}
  where
    ends : (e : ℕ × ℕ × ℕ) (w : ℕ) → e.0 < net.nodes → e.1 < net.nodes
        → ((stands e.0 ≡ f.parent w) × (stands e.1 ≡ w)) ⊎ ((stands e.0 ≡ w) × (stands e.1 ≡ f.parent w))
        → ((others e.0 ≡ f.parent w) × (others e.1 ≡ w)) ⊎ ((others e.0 ≡ w) × (others e.1 ≡ f.parent w))
    ends e w a b (inl (from, on)) = inl (same e.0 a ∙ from, same e.1 b ∙ on)
    ends e w a b (inr (from, on)) = inr (same e.0 a ∙ from, same e.1 b ∙ on)

    wire : (j : ℕ) → j < length net.edges → (w : ℕ) → IsWireOf f v stands w (edge_at net.edges j) → IsWireOf f v others w (edge_at net.edges j)
    wire j low w of = record {
      below = of.below;
      joins = ends (edge_at net.edges j) w (p.from_nodes j low) (p.to_nodes j low) of.joins;
      resistor = of.resistor;
    }

module _ (d : Design) (n : Joined) (x : Split) (k : ℕ) (net : ParNet) (is : IsNetOfStage d n x k net) where
  abbrev ns : List ℕ
  ns = nodes_in x k

  count : length net.nodes ≡ length ns
  count = node_count d n x k net is

  -- each node is a connection or has a resistor
  all_named : (i : ℕ) → i < length net.nodes → is_named net i ≡ true
  all_named i i_low = elim (cases_eq (slice_index ns i) (head x k)) [
    | inl first ↦
        or_left (not (node_at net.nodes i).inner) (not (length (node_at net.nodes i).note == 0) || (not (total_at net.caps i == 0) || wired)) (outer first)
    | inr other ↦
        or_right (not (node_at net.nodes i).inner) (not (length (node_at net.nodes i).note == 0) || (not (total_at net.caps i == 0) || wired))
        (or_right (not (length (node_at net.nodes i).note == 0)) (not (total_at net.caps i == 0) || wired)
        (or_right (not (total_at net.caps i == 0)) wired (by_resistor (wired_at d n x k net is (slice_index ns i) (all_nodes x k i 0 n_low) other))))
  ]
    where
      n_low : i < length ns
      n_low = omega (arith, i_low, count)

      wired : Bool
      wired = list_any (λ (res : ℕ × ℕ × ℕ). (res.0 == i) || (res.1 == i)) net.ress

      outer : slice_index ns i ≡ head x k → not (node_at net.nodes i).inner ≡ true
      outer first =
          ap (λ (node : ParNode). not node.inner) (node_is d n x k net is i n_low)
          ∙ ap (λ w. not (not (is_end x w))) first ∙ ap (λ b. not (not b)) (head_end d n x is.split k is.number)

      by_resistor : (j : ℕ) × (j < length net.ress) × IsWireOf (forest x) (head x k) (slice_index ns) (slice_index ns i) (edge_at net.ress j) → wired ≡ true
      by_resistor (j, j_low, of) =
          list_any_at (λ (res : ℕ × ℕ × ℕ). (res.0 == i) || (res.1 == i)) net.ress j (0, 0, 0) j_low (elim of.joins [
            | inl (from, on) ↦ or_right ((edge_at net.ress j).0 == i) ((edge_at net.ress j).1 == i)
                (eq-eqb (edge_at net.ress j).1 i (stands_once d n x k net is (edge_at net.ress j).1 i (omega (arith, ends.1, count)) n_low on))
            | inr (from, on) ↦ or_left ((edge_at net.ress j).0 == i) ((edge_at net.ress j).1 == i)
                (eq-eqb (edge_at net.ress j).0 i (stands_once d n x k net is (edge_at net.ress j).0 i (omega (arith, ends.0, count)) n_low from))
          ])
        where
          ends : ((edge_at net.ress j).0 < length net.nodes) × ((edge_at net.ress j).1 < length net.nodes) × ((edge_at net.ress j).2 ≤ 10 ^ 15)
          ends = net.sound.ress_at j (0, 0, 0) j_low

  -- a node of the stage by its name
  pub one_name : (u w : ℕ) → IsMember x k u → IsMember x k w → name_in x k u ≡ name_in x k w → u ≡ w
  one_name u w u_in w_in e =
      let (i, i_low, u_at) = listed x k u u_in in
      let (j, j_low, w_at) = listed x k w w_in in
      let u_is : slice_index ns i ≡ u = get_or_default ns i 0 u i_low ∙ u_at in
      let w_is : slice_index ns j ≡ w = get_or_default ns j 0 w j_low ∙ w_at in
      let same : name_of net i ≡ name_of net j
      = name_is d n x k net is i i_low ∙ ap (name_in x k) u_is ∙ e ∙ ap (name_in x k) (sym w_is) ∙ sym (name_is d n x k net is j j_low) in
      let numbers : i ≡ j = one_node net i j (omega (arith, i_low, count)) (omega (arith, j_low, count)) same in
      sym u_is ∙ ap (slice_index ns) numbers ∙ w_is

  pub named_is : (w : ℕ) → IsMember x k w → node_named x k (name_in x k w) ≡ w
  named_is w w_in =
      let p : ℕ → Bool = λ u. same_node (name_in x k u) (name_in x k w) in
      let found : IsFirst p (members (forest x) (head x k)) 0 = first p (members (forest x) (head x k)) w 0 (member x k w w_in) (same_refl (name_in x k w)) in
      let u_in : IsMember x k (node_named x k (name_in x k w))
      = All-contains (IsMember x k) (members (forest x) (head x k)) (node_named x k (name_in x k w)) (all_members x k) found.there in
      one_name (node_named x k (name_in x k w)) w u_in w_in (same_is (name_in x k (node_named x k (name_in x k w))) (name_in x k w) found.passes)

module _ (d : Design) (n : Joined) (x : Split) (k : ℕ) (read : ParNet) (is : IsReadOf d n x k read) where
  pub read_same : IsSameByNames is.net read
  read_same = same_by_names is.net read (all_named d n x k is.net is.stage) is.again

  pub some_conn : 0 < length is.net.conns
  some_conn = omega (arith, conn_count x k is.net.conns is.stage.of_stage.conns, some_end x k is.stage.number (head_end d n x is.stage.split k is.stage.number))

  abbrev back : ℕ → ℕ
  back = number_in is.net read

  pub read_count : length read.nodes ≡ length (nodes_in x k)
  read_count = (read_same.renumbered 0 some_conn).nodes ∙ count d n x k is.net is.stage

  pub back_low : (j : ℕ) → j < length read.nodes → back j < length (nodes_in x k)
  back_low j j_low = omega (arith, (read_same.renumbered 0 some_conn).within_back j (omega (arith, j_low, read_count, count d n x k is.net is.stage)), count d n x k is.net is.stage)

  pub stands_is : (j : ℕ) → j < length read.nodes → stands_for x k read j ≡ slice_index (nodes_in x k) (back j)
  stands_is j j_low =
      ap (node_named x k) (sym (read_same.names j j_low) ∙ name_is d n x k is.net is.stage (back j) (back_low j j_low))
      ∙ named_is d n x k is.net is.stage (slice_index (nodes_in x k) (back j)) (all_nodes x k (back j) 0 (back_low j j_low))

  -- a connection stands for the end of its number
  pub end_stands : (i : ℕ) → i < length read.nodes → i < length (ends_in x k) → stands_for x k read i ≡ slice_index (ends_in x k) i
  end_stands i i_low e_low =
      stands_is i i_low ∙ ap (slice_index (nodes_in x k)) (read_same.ends i (omega (arith, e_low, conn_count x k is.net.conns is.stage.of_stage.conns)))
      ∙ get_or_append_left (ends_in x k) (inner_in x k) 0 i e_low

  pub stands_in : (j : ℕ) → j < length read.nodes → IsMember x k (stands_for x k read j)
  stands_in j j_low = subst (IsMember x k) (sym (stands_is j j_low)) (all_nodes x k (back j) 0 (back_low j j_low))

  pub stands_name : (j : ℕ) → j < length read.nodes → name_in x k (stands_for x k read j) ≡ name_of read j
  stands_name j j_low =
      ap (name_in x k) (stands_is j j_low) ∙ sym (name_is d n x k is.net is.stage (back j) (back_low j j_low)) ∙ read_same.names j j_low

  pub read_piece : IsPieceNet (forest x) (head x k) (by_numbers read 0) (λ j. load_in d n x k (stands_for x k read j)) (stands_for x k read)
  read_piece =
      same_piece (forest x) (head x k) (by_numbers read 0) (λ j. load_in d n x k (slice_index (nodes_in x k) (back j))) (λ j. slice_index (nodes_in x k) (back j))
      (λ j. load_in d n x k (stands_for x k read j)) (stands_for x k read)
      (renumbered (forest x) (head x k) (by_numbers is.net 0) (by_numbers read 0) (λ i. load_in d n x k (slice_index (nodes_in x k) i)) (slice_index (nodes_in x k))
      (number_in read is.net) back (stage_piece d n x k is.net is.stage) (read_same.renumbered 0 some_conn))
      stands_is (λ j j_low. ap (load_in d n x k) (stands_is j j_low))

pub read_stages_are_the_same : ReadStagesAreTheSame
read_stages_are_the_same d n x k read is = read_same d n x k read is

pub read_stages_are_pieces : ReadStagesArePieces
read_stages_are_pieces d n x k read is = read_piece d n x k read is
