-- The chains of a divided net, each from the upper end of its resistor down.
use Rattle.std.proofs.Common.{◌≡◌, ◌≢◌, ◌⊎◌, ℕ, ◌+◌, ◌-◌, ◌*◌, ◌/◌, ◌%◌, ◌<◌, ◌≤◌, Bool, true, false, List, refl, sym, ap, ◌∙◌, subst, cond, arith, inl, inr, length, slice_index, div-add-mod'}
use Rattle.std.proofs.lemmas.Bool.{cases_eq, cases_lt, cases_Bool}
use Rattle.std.proofs.lemmas.Nat.{mod_below, div_below}
use Rattle.std.specs.List.{sum_by}
use Rattle.elmore.specs.Path.{nodes}
use Rattle.elmore.specs.Trees.{parent_of, resistance}
use Rattle.elmore.specs.declared.tree.Node.{Node}
use Rattle.rc_tree.specs.Chains.{edge_at, Joins}
use Rattle.rc_tree.specs.Nets.{capacitance_at}
use Rattle.rc_tree.specs.Answers.{ListsAll, AreWires}
use Rattle.cut_laws.specs.PieceNets.{NumberedNet, IsTreeOfNet}
use Rattle.divided_net_laws.specs.DividedNets.{IsDividedNet}
use Rattle.divided_net_laws.proofs.ChoiceLemmas.{chosen}
use Rattle.divided_net_laws.proofs.LinkLemmas.{part_edge, pos_in, part_in, r_in, index_in, mid_in, mid_some, mid_once, pos_mid, pos_end, pos_top, r_whole}

-- a copy of rc_tree's lemma, which it does not export: no node has two places in the order
pub one_place : (n : ℕ) (order : List ℕ) → ListsAll n order → (i k : ℕ) → i < n → k < n
    → slice_index order i ≡ slice_index order k → i ≡ k
one_place n order l i k i_n k_n same =
    elim (cases_eq i k) [
      | inl e ↦ e
      | inr e ↦ elim (cases_lt i k) [
        | inl low ↦ absurd (l.once i k low k_n same)
        | inr high ↦ absurd (l.once k i (omega arith) i_n (sym same))
      ]
    ]

-- the part d, from above, of the resistor j: the new resistor e
pub record IsPart (count parts : ℕ) (new_edges : List (ℕ × ℕ × ℕ)) (pos r index : ℕ → ℕ → ℕ) (e j d : ℕ) : Type 0 where
  pub j_n : j < count
  pub d_n : d < parts
  pub number : e ≡ index j d
  pub joins : Joins (edge_at new_edges e) (pos j d) (pos j (d + 1))
  pub res : (edge_at new_edges e).2 ≡ r j d

-- chains of new resistors, each from above, for each wire of the old tree: after d parts of the chain j comes the node
-- `pos j d`, and then a part of the resistance `r j d`, which is the new resistor `index j d`
pub record AreChains (parts : ℕ) (net other : NumberedNet) (to : ℕ → ℕ) (old : List Node) (order : List ℕ)
    (low : ℕ → ℕ) (pos r index : ℕ → ℕ → ℕ) : Type 0 where
  pub some : 0 < parts
  pub each : (e : ℕ) → e < length other.edges
      → (w : ℕ × ℕ) × IsPart (length net.edges) parts other.edges pos r index e w.0 w.1
  pub within : (j d : ℕ) → j < length net.edges → d < parts → pos j (d + 1) < other.nodes
  pub once : (j d h g : ℕ) → j < length net.edges → d < parts → h < length net.edges → g < parts
      → pos j (d + 1) ≡ pos h (g + 1) → (j ≡ h) × (d ≡ g)
  pub not_root : (j d : ℕ) → j < length net.edges → d < parts → pos j (d + 1) ≢ to net.root
  pub top : (j : ℕ) → j < length net.edges → pos j 0 ≡ to (slice_index order (parent_of old (low j)))
  pub end : (j : ℕ) → j < length net.edges → pos j parts ≡ to (slice_index order (low j))
  pub inner : (j d k : ℕ) → j < length net.edges → d + 1 < parts → k < net.nodes → pos j (d + 1) ≢ to k
  pub bare : (j d : ℕ) → j < length net.edges → d + 1 < parts → capacitance_at other.caps (pos j (d + 1)) ≡ 0
  pub low_some : (j : ℕ) → j < length net.edges → 0 < low j
  pub low_within : (j : ℕ) → j < length net.edges → low j < length old
  pub wire_of : (u : ℕ) → 0 < u → u < length old → (j : ℕ) × (j < length net.edges) × (low j ≡ u)
  pub whole : (j : ℕ) → j < length net.edges → sum_by (r j) (nodes parts) ≡ resistance old (low j)

-- the tree node i of the old net is at the lower end of the resistor j; `ahead` says whether that is its second end
pub record IsLow (edges : List (ℕ × ℕ × ℕ)) (old : List Node) (order wires : List ℕ) (j i : ℕ)
    (ahead : Bool) : Type 0 where
  pub some : 0 < i
  pub within : i < length old
  pub wire : slice_index wires i ≡ j
  pub upper : cond ahead (edge_at edges j).0 (edge_at edges j).1 ≡ slice_index order (parent_of old i)
  pub lower : cond ahead (edge_at edges j).1 (edge_at edges j).0 ≡ slice_index order i
  pub r : resistance old i ≡ (edge_at edges j).2

low_of : (edges : List (ℕ × ℕ × ℕ)) (old : List Node) (order wires : List ℕ) → AreWires edges old order wires
    → (j : ℕ) → j < length edges → (x : ℕ × Bool) × IsLow edges old order wires j x.0 x.1
low_of edges old order wires a j j_n =
    let (i, some, within, at) = a.each j j_n in
    let wire = a.wire i some within in
    turn i some within at
    (subst (λ k. Joins (edge_at edges k) (slice_index order (parent_of old i)) (slice_index order i)) at wire.joins)
    (wire.r ∙ ap (λ k. (edge_at edges k).2) at)
  where
    turn : (i : ℕ) → 0 < i → i < length old → slice_index wires i ≡ j
        → Joins (edge_at edges j) (slice_index order (parent_of old i)) (slice_index order i)
        → resistance old i ≡ (edge_at edges j).2
        → (x : ℕ × Bool) × IsLow edges old order wires j x.0 x.1
    turn i some within at (inl (a, b)) r =
        ((i, true), record { some = some; within = within; wire = at; upper = a; lower = b; r = r })
    turn i some within at (inr (a, b)) r =
        ((i, false), record { some = some; within = within; wire = at; upper = b; lower = a; r = r })

pub lows : (edges : List (ℕ × ℕ × ℕ)) (old : List Node) (order wires : List ℕ) → AreWires edges old order wires
    → (f : ℕ → ℕ × Bool) × ((j : ℕ) → j < length edges → IsLow edges old order wires j (f j).0 (f j).1)
lows edges old order wires a =
    chosen {X = ℕ × Bool} (length edges) (λ j x. IsLow edges old order wires j x.0 x.1) (0, true)
    (low_of edges old order wires a)

-- each new resistor is a part of a chain
new_part : (parts : ℕ) (net other : NumberedNet) (to : ℕ → ℕ) (fresh : ℕ → ℕ → ℕ)
    → IsDividedNet parts net other to fresh → (ahead : ℕ → Bool) (e j i : ℕ) → j < length net.edges → i < parts
    → e ≡ parts * j + i → (ahead j ≡ true) ⊎ (ahead j ≡ false)
    → (w : ℕ × ℕ)
    × IsPart (length net.edges) parts other.edges (pos_in parts to fresh net.edges ahead) (r_in parts net.edges ahead)
    (index_in parts ahead) e w.0 w.1
unfolding pos_in r_in part_in index_in
new_part parts net other to fresh c ahead e j i j_n i_n is_e (inl up) =
    let edge : edge_at other.edges e ≡ part_edge parts to fresh net.edges j i =
    ap (edge_at other.edges) is_e ∙ c.resistors j i j_n i_n in (
      (j, i),
      record {
        j_n = j_n;
        d_n = i_n;
        number = rw up is_e;
        joins = rw up (inl (ap (λ (x : ℕ × ℕ × ℕ). x.0) edge, ap (λ (x : ℕ × ℕ × ℕ). x.1) edge));
        res = rw up (ap (λ (x : ℕ × ℕ × ℕ). x.2) edge);
      },
    )
new_part parts net other to fresh c ahead e j i j_n i_n is_e (inr down) =
    let edge : edge_at other.edges e ≡ part_edge parts to fresh net.edges j i =
    ap (edge_at other.edges) is_e ∙ c.resistors j i j_n i_n in
    let back : parts - (parts - (i + 1) + 1) ≡ i = omega arith in
    let back_one : parts - (parts - (i + 1)) ≡ i + 1 = omega arith in (
      (j, parts - (i + 1)),
      record {
        j_n = j_n;
        d_n = omega arith;
        number = rw (down, back) is_e;
        joins = rw (down, back, back_one) (inr (ap (λ (x : ℕ × ℕ × ℕ). x.0) edge, ap (λ (x : ℕ × ℕ × ℕ). x.1) edge));
        res = rw (down, back) (ap (λ (x : ℕ × ℕ × ℕ). x.2) edge);
      },
    )

-- the chains of a divided net
pub chains : (parts : ℕ) (net other : NumberedNet) (to : ℕ → ℕ) (fresh : ℕ → ℕ → ℕ)
    → IsDividedNet parts net other to fresh
    → (old : List Node) (order wires : List ℕ) → IsTreeOfNet net old order → AreWires net.edges old order wires
    → (low : ℕ → ℕ) (ahead : ℕ → Bool)
    → ((j : ℕ) → j < length net.edges → IsLow net.edges old order wires j (low j) (ahead j))
    → AreChains parts net other to old order low (pos_in parts to fresh net.edges ahead) (r_in parts net.edges ahead)
    (index_in parts ahead)
chains parts net other to fresh c old order wires t a low ahead is = record {
  some = c.some;
  each = each;
  within = λ j d j_n d_n. elim (cases_lt (d + 1) parts) [
    | inl less ↦
        let (some, below) = mid_some parts ahead j (d + 1) (omega arith) less in
        omega (
          arith,
          pos_mid parts to fresh net.edges ahead j (d + 1) (omega arith) less,
          c.fresh_within j (mid_in parts ahead j (d + 1)) j_n some below,
        )
    | inr last ↦ omega (arith, ending j (d + 1) j_n (omega arith), c.within (slice_index order (low j)) (node j j_n))
  ];
  once = λ j d h g j_n d_n h_n g_n same.
      one j d h g j_n d_n h_n g_n same (cases_lt (d + 1) parts) (cases_lt (g + 1) parts);
  not_root = λ j d j_n d_n same. elim (cases_lt (d + 1) parts) [
    | inl less ↦ inner j d net.root j_n less root_n same
    | inr last ↦
        let at : slice_index order (low j) ≡ slice_index order 0 =
        c.to_once (slice_index order (low j)) (slice_index order 0) (node j j_n) (omega (arith, t.begins, root_n))
        (sym (ending j (d + 1) j_n (omega arith)) ∙ same ∙ ap to (sym t.begins)) in
        let low_n : low j < net.nodes = omega (arith, (is j j_n).within, t.count) in
        omega (arith, one_place net.nodes order t.lists (low j) 0 low_n (omega arith) at, (is j j_n).some)
  ];
  top = λ j j_n. pos_top parts to fresh net.edges ahead j 0 c.some refl ∙ ap to (is j j_n).upper;
  end = λ j j_n. ending j parts j_n refl;
  inner = inner;
  bare = λ j d j_n less.
      let (some, below) = mid_some parts ahead j (d + 1) (omega arith) less in
      ap (capacitance_at other.caps) (pos_mid parts to fresh net.edges ahead j (d + 1) (omega arith) less) ∙ c.bare j
      (mid_in parts ahead j (d + 1)) j_n some below;
  low_some = λ j j_n. (is j j_n).some;
  low_within = λ j j_n. (is j j_n).within;
  wire_of = λ u u_0 u_n.
      let j_n : slice_index wires u < length net.edges = (a.wire u u_0 u_n).number in
      (slice_index wires u, j_n, same_low u u_0 u_n j_n);
  whole = λ j j_n. r_whole parts net.edges ahead j c.some ∙ sym (is j j_n).r;
}
  where
    pos : ℕ → ℕ → ℕ
    pos j d = pos_in parts to fresh net.edges ahead j d

    root_n : net.root < net.nodes
    root_n = omega (arith, t.begins, t.lists.within 0 (omega (arith, t.count, t.a_tree.some_node)))

    node : (j : ℕ) → j < length net.edges → slice_index order (low j) < net.nodes
    node j j_n = t.lists.within (low j) (omega (arith, (is j j_n).within, t.count))

    ending : (j d : ℕ) → j < length net.edges → d ≡ parts
        → pos_in parts to fresh net.edges ahead j d ≡ to (slice_index order (low j))
    ending j d j_n e = pos_end parts to fresh net.edges ahead j d c.some e ∙ ap to (is j j_n).lower

    inner : (j d k : ℕ) → j < length net.edges → d + 1 < parts → k < net.nodes
        → pos_in parts to fresh net.edges ahead j (d + 1) ≢ to k
    inner j d k j_n less k_n same =
        let (some, below) = mid_some parts ahead j (d + 1) (omega arith) less in
        c.apart k j (mid_in parts ahead j (d + 1)) k_n j_n some below
        (sym same ∙ pos_mid parts to fresh net.edges ahead j (d + 1) (omega arith) less)

    same_low : (u : ℕ) → 0 < u → u < length old → (j_n : slice_index wires u < length net.edges)
        → low (slice_index wires u) ≡ u
    same_low u u_0 u_n j_n =
        let l = is (slice_index wires u) j_n in
        elim (cases_eq (low (slice_index wires u)) u) [
          | inl e ↦ e
          | inr e ↦ elim (cases_lt (low (slice_index wires u)) u) [
            | inl less ↦ absurd (a.once (low (slice_index wires u)) u l.some less u_n l.wire)
            | inr more ↦ absurd (a.once u (low (slice_index wires u)) u_0 (omega arith) l.within (sym l.wire))
          ]
        ]

    one : (j d h g : ℕ) → j < length net.edges → d < parts → h < length net.edges → g < parts
        → pos_in parts to fresh net.edges ahead j (d + 1) ≡ pos_in parts to fresh net.edges ahead h (g + 1)
        → (d + 1 < parts) ⊎ (parts ≤ d + 1) → (g + 1 < parts) ⊎ (parts ≤ g + 1) → (j ≡ h) × (d ≡ g)
    one j d h g j_n d_n h_n g_n same (inl x) (inl y) =
        let (some, below) = mid_some parts ahead j (d + 1) (omega arith) x in
        let (some_h, below_h) = mid_some parts ahead h (g + 1) (omega arith) y in
        let (j_h, d_g) =
        c.fresh_once j (mid_in parts ahead j (d + 1)) h (mid_in parts ahead h (g + 1)) j_n h_n some below some_h below_h
        (sym (pos_mid parts to fresh net.edges ahead j (d + 1) (omega arith) x)
        ∙ same
        ∙ pos_mid parts to fresh net.edges ahead h (g + 1) (omega arith) y) in
        let more : d + 1 ≡ g + 1 =
        mid_once parts ahead j (d + 1) (g + 1) x y (d_g ∙ ap (λ k. mid_in parts ahead k (g + 1)) (sym j_h)) in
        (j_h, omega (arith, more))
    one j d h g j_n d_n h_n g_n same (inl x) (inr y) =
        absurd (inner j d (slice_index order (low h)) j_n x (node h h_n) (same ∙ ending h (g + 1) h_n (omega arith)))
    one j d h g j_n d_n h_n g_n same (inr x) (inl y) =
        let here : pos h (g + 1) ≡ to (slice_index order (low j)) = sym same ∙ ending j (d + 1) j_n (omega arith) in
        absurd (inner h g (slice_index order (low j)) h_n y (node j j_n) here)
    one j d h g j_n d_n h_n g_n same (inr x) (inr y) =
        let at : slice_index order (low j) ≡ slice_index order (low h) =
        c.to_once (slice_index order (low j)) (slice_index order (low h)) (node j j_n) (node h h_n)
        (sym (ending j (d + 1) j_n (omega arith)) ∙ same ∙ ending h (g + 1) h_n (omega arith)) in
        let equal : low j ≡ low h =
        one_place net.nodes order t.lists (low j) (low h) (omega (arith, (is j j_n).within, t.count))
        (omega (arith, (is h h_n).within, t.count)) at in
        (sym (is j j_n).wire ∙ ap (slice_index wires) equal ∙ (is h h_n).wire, omega arith)

    each : (e : ℕ) → e < length other.edges
        → (w : ℕ × ℕ)
        × IsPart (length net.edges) parts other.edges (pos_in parts to fresh net.edges ahead)
        (r_in parts net.edges ahead) (index_in parts ahead) e w.0 w.1
    each e e_m =
        let j_n : e / parts < length net.edges = div_below e parts (length net.edges) c.some (omega (arith, c.count)) in
        let i_n : e % parts < parts = mod_below e parts c.some in
        let is_e : e ≡ parts * (e / parts) + e % parts = omega (arith, div-add-mod' e parts) in
        new_part parts net other to fresh c ahead e (e / parts) (e % parts) j_n i_n is_e
        (cases_Bool (ahead (e / parts)))
