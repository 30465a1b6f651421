-- What is read of a cut net is the net with its resistors divided.
use Rattle.std.proofs.Common.{◌≡◌, ◌≢◌, ◌⊎◌, ℕ, ◌+◌, ◌-◌, ◌*◌, ◌<◌, ◌≤◌, ◌==◌, ◌||◌, ◌&&◌, not, Bool, true, false, List, length, get_or, map, slice_index, refl, sym, ap, ◌∙◌, subst, arith, inl, inr}
use Rattle.std.specs.List.{list_any}
use Rattle.std.proofs.lemmas.Bool.{cases_eq, cases_lt, eq-eqb, ne_eqb, false≢true}
use Rattle.std.proofs.lemmas.List.{get_or_append_left, get_or_default}
use Rattle.std.proofs.lemmas.List.Folds.{list_any_at, list_any_none}
use Rattle.std.proofs.lemmas.Option.{slice_get-get_or}
use Rattle.divided_net_laws.specs.DividedNets.{IsDividedNet}
use Rattle.divided_net_laws.proofs.LinkLemmas.{link_0, link_end, link_mid}
use Rattle.divided_net_laws.proofs.RenumberedNetLemmas.{renumbered}
use Rattle.elmore.specs.Trees.{parent_of}
use Rattle.elmore.specs.declared.tree.Node.{Node}
use Rattle.rc_tree.specs.Answers.{IsTreeOf}
use Rattle.rc_tree.specs.Chains.{Joins, edge_at}
use Rattle.spef_net.specs.declared.net.ParConn.{ParConn}
use Rattle.spef_net.specs.declared.net.ParNet.{ParNet}
use Rattle.spef_net.specs.declared.net.ConnKind.TheVariants.{Pin}
use Rattle.spef_net.specs.declared.net.Direction.TheVariants.{In}
use Rattle.spef_nodes.specs.Nodes.{ParNode}
use Rattle.spef_wire.specs.Refusals.{is_sink}
use Rattle.spef_wire.specs.Wires.{is_sink_node}
use Rattle.spef_write.specs.Sections.{NO_NODE, node_at, total_at}
use Rattle.spef_write.specs.SectionLaws.{IsWrittenAgain, is_named}
use Rattle.spef_write.proofs.ClearLemmas.{conn_number, one_node}
use Rattle.vg_segment.specs.Segments.{IsSegmented, new_node}
use Rattle.split_laws.specs.ReadNets.{IsSameByNames, number_in}
use Rattle.split_laws.specs.StagePieces.{by_numbers}
use Rattle.split_laws.proofs.AgainLemmas.{read_nets_are_the_same}
use Rattle.vg_design.specs.Designs.{name_of}
use Rattle.segment_laws.proofs.SegmentedNetLemmas.{in_row, segmented}

-- a net is this one with each resistor divided, and the node k has the number `to k` there
pub record IsDividedRead (parts : ℕ) (net read : ParNet) (root : ℕ) (to : ℕ → ℕ) (fresh : ℕ → ℕ → ℕ) : Type 0 where
  pub divided : IsDividedNet parts (by_numbers net root) (by_numbers read root) to fresh
  pub conns : read.conns ≡ net.conns
  pub nodes : (k : ℕ) → k < length net.nodes → node_at read.nodes (to k) ≡ node_at net.nodes k
  pub ends : (k : ℕ) → k < length net.conns → to k ≡ k
  pub whole : read.reduced ≡ false
  pub plain : read.inductive ≡ false

abbrev no_conn : ParConn
no_conn = record { kind = Pin; node = 0; direction = In }

-- ---- what a section names

-- a connection
by_inner : (net : ParNet) (k : ℕ) → (node_at net.nodes k).inner ≡ false → is_named net k ≡ true
by_inner net k e =
    ap (λ (b : Bool). not b || (not (length (node_at net.nodes k).note == 0)
    || (not (total_at net.caps k == 0) || list_any (λ res. (res.0 == k) || (res.1 == k)) net.ress))) e

or_last : (a b c d : Bool) → d ≡ true → (a || (b || (c || d))) ≡ true
or_last true b c d e = refl
or_last false true c d e = refl
or_last false false true d e = refl
or_last false false false d e = e

or_either : (a b k : ℕ) → (a ≡ k) ⊎ (b ≡ k) → ((a == k) || (b == k)) ≡ true
or_either a b k (inl e) = ap (λ (t : Bool). t || (b == k)) (eq-eqb a k e)
or_either a b k (inr e) = ap (λ (t : Bool). (a == k) || t) (eq-eqb b k e) ∙ last (a == k)
  where
    last : (t : Bool) → (t || true) ≡ true
    last true = refl
    last false = refl

-- the end of a resistor
by_res : (net : ParNet) (k j : ℕ) → j < length net.ress → ((edge_at net.ress j).0 ≡ k) ⊎ ((edge_at net.ress j).1 ≡ k)
    → is_named net k ≡ true
by_res net k j j_n here =
    or_last (not (node_at net.nodes k).inner) (not (length (node_at net.nodes k).note == 0))
    (not (total_at net.caps k == 0))
    (list_any (λ (res : ℕ × ℕ × ℕ). (res.0 == k) || (res.1 == k)) net.ress)
    (list_any_at (λ (res : ℕ × ℕ × ℕ). (res.0 == k) || (res.1 == k)) net.ress j (0, 0, 0) j_n
    (or_either (edge_at net.ress j).0 (edge_at net.ress j).1 k here))

module _ (net : ParNet) (parts : ℕ) (cut : ParNet) (s : IsSegmented net parts cut) (some : 0 < parts) (root : ℕ)
    (root_end : root < length net.conns) (tree : List Node) (order : List ℕ)
    (t : IsTreeOf (length net.nodes) root net.caps net.ress tree order) where
  abbrev fresh : ℕ → ℕ → ℕ
  fresh j i = length net.nodes + j * (parts - 1) + (i - 1)

  is : IsDividedNet parts (by_numbers net root) (by_numbers cut root) (λ k. k) fresh
  is = segmented net parts cut root s some

  part_low : (j i : ℕ) → j < length net.ress → i < parts → parts * j + i < length cut.ress
  part_low j i j_n i_p = omega (arith, is.count, in_row parts (length net.ress) j i j_n i_p)

  old_node : (k : ℕ) → k < length net.nodes → node_at cut.nodes k ≡ node_at net.nodes k
  old_node k k_n =
      ap (λ (nodes : List ParNode). node_at nodes k) s.nodes
      ∙ get_or_append_left net.nodes (map (new_node net.name) s.leaves) NO_NODE k k_n

  -- the ends of a resistor are those of its first and its last part
  by_end : (k j : ℕ) → j < length net.ress → ((edge_at net.ress j).0 ≡ k) ⊎ ((edge_at net.ress j).1 ≡ k)
      → is_named cut k ≡ true
  by_end k j j_n (inl e) =
      by_res cut k (parts * j + 0) (part_low j 0 j_n some)
      (inl (ap (λ (x : ℕ × ℕ × ℕ). x.0) (is.resistors j 0 j_n some)
      ∙ link_0 parts (λ k. k) fresh net.ress j 0 refl ∙ e))
  by_end k j j_n (inr e) =
      by_res cut k (parts * j + (parts - 1)) (part_low j (parts - 1) j_n (omega arith))
      (inr (ap (λ (x : ℕ × ℕ × ℕ). x.1) (is.resistors j (parts - 1) j_n (omega arith))
      ∙ link_end parts (λ k. k) fresh net.ress j (parts - 1 + 1) some (omega arith) ∙ e))

  -- so all its nodes are named
  root_named : is_named cut root ≡ true
  root_named =
      let conn = get_or net.conns root no_conn in
      let end =
      net.sound.joined.ends root conn (node_at net.nodes root) (slice_get-get_or net.conns root no_conn root_end)
      (slice_get-get_or net.nodes root NO_NODE (omega (arith, root_end, net.sound.joined.few))) in
      by_inner cut root
      (ap (λ (n : ParNode). n.inner) (old_node root (omega (arith, root_end, net.sound.joined.few))) ∙ end.0)

  old_named : (k : ℕ) → k < length net.nodes → is_named cut k ≡ true
  old_named k k_n =
      let (i, i_n, at) = t.lists.each k k_n in
      elim (cases_eq i 0) [
        | inl e ↦ subst (λ (v : ℕ). is_named cut v ≡ true)
            (sym t.begins ∙ ap (slice_index order) (sym e) ∙ at) root_named
        | inr e ↦
            let (wires, w) = t.wires in
            let wire = w.wire i (omega arith) (omega (arith, t.count)) in
            by_end k (slice_index wires i) wire.number
            (low (edge_at net.ress (slice_index wires i)) (slice_index order (parent_of tree i))
            (slice_index order i) at wire.joins)
      ]
    where
      low : (e : ℕ × ℕ × ℕ) (u v : ℕ) → v ≡ k → Joins e u v → (e.0 ≡ k) ⊎ (e.1 ≡ k)
      low e u v at (inl (a, b)) = inr (b ∙ at)
      low e u v at (inr (a, b)) = inl (a ∙ at)

  all_named : (x : ℕ) → x < length cut.nodes → is_named cut x ≡ true
  all_named x x_n = elim (is.each x x_n) [
    | inl (k, k_n, e) ↦ subst (λ (v : ℕ). is_named cut v ≡ true) (sym e) (old_named k k_n)
    | inr (j, i, j_n, i_0, i_p, e) ↦
        by_res cut x (parts * j + i) (part_low j i j_n i_p)
        (inl (ap (λ (x : ℕ × ℕ × ℕ). x.0) (is.resistors j i j_n i_p)
        ∙ link_mid parts (λ k. k) fresh net.ress j i i_0 i_p ∙ sym e))
  ]

  module _ (read : ParNet) (again : IsWrittenAgain cut read) where
    abbrev to : ℕ → ℕ
    to = number_in read cut

    same : IsSameByNames cut read
    same = read_nets_are_the_same cut read all_named again

    root_low : root < length cut.conns
    root_low = omega (arith, root_end, ap (λ (conns : List ParConn). length conns) s.conns)

    to_end : (k : ℕ) → k < length net.conns → to k ≡ k
    to_end k k_n =
        let low : k < length cut.conns = omega (arith, k_n, ap (λ (conns : List ParConn). length conns) s.conns) in
        ap to (sym (same.ends k low))
        ∙ (same.renumbered root root_low).there k (omega (arith, low, cut.sound.joined.few))

    divided : IsDividedNet parts (by_numbers net root) (by_numbers read root) to (λ j i. to (fresh j i))
    divided =
        renumbered parts (by_numbers net root) (by_numbers cut root) (by_numbers read root) (λ k. k) fresh to
        (number_in cut read) is (same.renumbered root root_low)

    node_same : (k : ℕ) → k < length net.nodes → node_at read.nodes (to k) ≡ node_at net.nodes k
    node_same k k_n =
        let k_low : k < length cut.nodes = omega (arith, k_n, is.nodes) in
        let j_low : to k < length read.nodes = divided.within k k_n in
        let (i, i_low, at) = again.nodes (to k) NO_NODE j_low in
        let here : node_at cut.nodes i ≡ node_at read.nodes (to k) =
        get_or_default cut.nodes i NO_NODE (node_at read.nodes (to k)) i_low ∙ at in
        let name : name_of cut k ≡ name_of read (to k) =
        ap (name_of cut) (sym ((same.renumbered root root_low).again k k_low)) ∙ same.names (to k) j_low in
        let one : k ≡ i = one_node cut k i k_low i_low (name ∙ sym (ap (λ (n : ParNode). n.name) here)) in
        sym here ∙ ap (node_at cut.nodes) (sym one) ∙ old_node k k_n

    pub divided_read : IsDividedRead parts net read root to (λ j i. to (fresh j i))
    divided_read = record {
      divided = divided;
      conns = same.conns ∙ s.conns;
      nodes = node_same;
      ends = to_end;
      whole = again.whole;
      plain = again.plain;
    }

-- ---- sinks

-- only a connection is a sink
no_sink : (net : ParNet) (v : ℕ) → length net.conns ≤ v → is_sink_node net v ≡ false
no_sink net v past =
    list_any_none (λ (conn : ParConn). is_sink conn && (conn.node == v)) net.conns
    (λ i d low. neither (is_sink (get_or net.conns i d)) ((get_or net.conns i d).node == v)
    (ne_eqb (get_or net.conns i d).node v (λ e. absurd (omega (arith, e, conn_number net i d low, low, past)))))
  where
    neither : (a b : Bool) → b ≡ false → (a && b) ≡ false
    neither true b e = e
    neither false b e = refl

pub sink_low : (net : ParNet) (v : ℕ) → is_sink_node net v ≡ true → v < length net.conns
sink_low net v here = elim (cases_lt v (length net.conns)) [
  | inl low ↦ low
  | inr past ↦ absurd (false≢true (sym (no_sink net v past) ∙ here))
]

module _ (parts : ℕ) (net read : ParNet) (root : ℕ) (to : ℕ → ℕ) (fresh : ℕ → ℕ → ℕ)
    (d : IsDividedRead parts net read root to fresh) where
  pub as_many_ends : length read.conns ≡ length net.conns
  as_many_ends = ap (λ (conns : List ParConn). length conns) d.conns

  -- a node is a sink where it was
  pub sink_same : (k : ℕ) → k < length net.nodes → is_sink_node read (to k) ≡ is_sink_node net k
  sink_same k k_n = elim (cases_lt k (length net.conns)) [
    | inl low ↦
        ap (is_sink_node read) (d.ends k low)
        ∙ ap (λ (conns : List ParConn). list_any (λ (conn : ParConn). is_sink conn && (conn.node == k)) conns) d.conns
    | inr past ↦ no_sink read (to k) (still past) ∙ sym (no_sink net k past)
  ]
    where
      still : length net.conns ≤ k → length read.conns ≤ to k
      still past = elim (cases_lt (to k) (length net.conns)) [
        | inl low ↦
            absurd (omega (
              arith,
              d.divided.to_once (to k) k (omega (arith, low, net.sound.joined.few)) k_n (d.ends (to k) low),
              low,
              past,
            ))
        | inr high ↦ omega (arith, high, as_many_ends)
      ]

  -- and no new one is a sink
  pub sink_none : (x : ℕ) → ((k : ℕ) → k < length net.nodes → x ≢ to k) → is_sink_node read x ≡ false
  sink_none x new = elim (cases_lt x (length net.conns)) [
    | inl low ↦ absurd (new x (omega (arith, low, net.sound.joined.few)) (sym (d.ends x low)))
    | inr past ↦ no_sink read x (omega (arith, past, as_many_ends))
  ]
