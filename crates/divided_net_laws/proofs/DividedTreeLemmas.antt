-- The tree of a divided net is the tree of the net with its edges divided.
use Rattle.std.proofs.Common.{◌≡◌, ◌⊎◌, ℕ, ◌+◌, ◌-◌, ◌<◌, Bool, true, false, List, refl, sym, ap, ◌∙◌, subst, eqb, cond, arith, inl, inr, length, slice_index}
use Rattle.std.proofs.lemmas.Bool.{cases_eq, cases_lt, eq-eqb, ne_eqb, false≢true}
use Rattle.std.specs.List.{sum_by}
use Rattle.elmore.specs.Path.{nodes}
use Rattle.elmore.specs.Trees.{IsTree, parent_of, resistance, capacitance}
use Rattle.elmore.specs.declared.tree.Node.{Node}
use Rattle.elmore.proofs.SumLemmas.{sum_of_more}
use Rattle.rc_tree.specs.Nets.{capacitance_at}
use Rattle.rc_tree.specs.Answers.{ListsAll}
use Rattle.cut_laws.specs.PieceNets.{NumberedNet}
use Rattle.divided_laws.specs.DividedTrees.{Chains, is_old, IsDivided}
use Rattle.divided_net_laws.specs.DividedNets.{DividedNetsHaveDividedTrees}
use Rattle.divided_net_laws.proofs.ChoiceLemmas.{chosen}
use Rattle.divided_net_laws.proofs.ChainLemmas.{one_place, AreChains, lows, chains}
use Rattle.divided_net_laws.proofs.LinkLemmas.{pos_in, r_in, index_in}
use Rattle.divided_net_laws.proofs.DownLemmas.{IsDown, downs}

-- what stands where in both trees: the chain and the part of each new tree's node, and the place of each number
record Stands (parts : ℕ) (net other : NumberedNet) (to : ℕ → ℕ) (old new : List Node) (order new_order wires : List ℕ)
    (pos r index : ℕ → ℕ → ℕ) (place : ℕ → ℕ) (chain step : ℕ → ℕ) : Type 0 where
  pub old_count : length old ≡ net.nodes
  pub new_count : length new ≡ other.nodes
  pub old_tree : IsTree old
  pub new_tree : IsTree new
  pub lists : ListsAll net.nodes order
  pub new_lists : ListsAll other.nodes new_order
  pub begins : slice_index order 0 ≡ net.root
  pub new_begins : slice_index new_order 0 ≡ to net.root
  pub place_within : (y : ℕ) → y < other.nodes → place y < other.nodes
  pub placed : (y : ℕ) → y < other.nodes → slice_index new_order (place y) ≡ y
  pub to_within : (k : ℕ) → k < net.nodes → to k < other.nodes
  pub to_once : (k l : ℕ) → k < net.nodes → l < net.nodes → to k ≡ to l → k ≡ l
  pub down : (x : ℕ) → 0 < x → x < length new
      → IsDown (length net.edges) parts new new_order wires pos r index x (chain x) (step x)

-- the chains of the new tree
abbrev chains_of : (ℕ → ℕ) → List ℕ → (ℕ → ℕ) → (ℕ → ℕ → ℕ) → (ℕ → ℕ → ℕ) → (ℕ → ℕ) → (ℕ → ℕ) → (ℕ → ℕ) → Chains
chains_of to order low pos r place chain step = record {
  at = λ u. place (to (slice_index order u));
  owner = λ x. cond (eqb x 0) 0 (low (chain x));
  below = λ x. place (pos (chain x) (step x + 2));
  so_far = λ x. sum_by (r (chain x)) (nodes (step x + 1));
}

-- so the new tree is the old one with its edges divided
divide : (parts : ℕ) (net other : NumberedNet) (to : ℕ → ℕ) (old : List Node) (order : List ℕ) (low : ℕ → ℕ)
    (pos r index : ℕ → ℕ → ℕ)
    → AreChains parts net other to old order low pos r index
    → (new : List Node) (new_order wires : List ℕ) (place chain step : ℕ → ℕ)
    → Stands parts net other to old new order new_order wires pos r index place chain step
    → ((i : ℕ) → i < net.nodes → capacitance old i ≡ capacitance_at net.caps (slice_index order i))
    → ((i : ℕ) → i < other.nodes → capacitance new i ≡ capacitance_at other.caps (slice_index new_order i))
    → ((k : ℕ) → k < net.nodes → capacitance_at other.caps (to k) ≡ capacitance_at net.caps k)
    → IsDivided old new (chains_of to order low pos r place chain step)
divide parts net other to old order low pos r index c new new_order wires place chain step s old_c new_c sums = record {
  old_tree = s.old_tree;
  new_tree = s.new_tree;
  root = at_root;
  within = at_within;
  owned = owned;
  owners = λ x x_m. elim (cases_eq x 0) [
    | inl e ↦ rw (eq-eqb x 0 e) s.old_tree.some_node
    | inr e ↦ rw (ne_eqb x 0 e) (c.low_within (chain x) (s.down x (omega arith) x_m).j_n)
  ];
  capacitances = λ u u_n.
      new_c (at u) (omega (arith, at_within u u_n, s.new_count))
      ∙ ap (capacitance_at other.caps) (at_here u u_n)
      ∙ sums (slice_index order u) (name u u_n)
      ∙ sym (old_c u (omega (arith, s.old_count)));
  bare = λ x x_m is_new.
      let (x_0, less) = inner x x_m is_new in
      let is = s.down x x_0 x_m in
      new_c x (omega (arith, s.new_count)) ∙ ap (capacitance_at other.caps) is.here
      ∙ c.bare (chain x) (step x) is.j_n less;
  from_old = λ x x_0 x_m is.
      elim (above x x_0 x_m) [
        | inl (z, e) ↦
            let is_x = s.down x x_0 x_m in
            ap owner e ∙ owned (parent_of old (low (chain x))) (up_within (chain x) is_x.j_n)
            ∙ ap (parent_of old) (sym (owner_some x x_0))
        | inr (y_0, same, more, less) ↦
            absurd (false≢true (sym (not_old (parent_of new x) y_0 (up x x_0 x_m) less) ∙ is))
      ];
  from_new = λ x x_0 x_m is_new.
      elim (above x x_0 x_m) [
        | inl (z, e) ↦
            let is_x = s.down x x_0 x_m in
            absurd (clash (parent_of new x) (parent_of old (low (chain x))) is_new (up_within (chain x) is_x.j_n) e)
        | inr (y_0, same, more, less) ↦ owner_some (parent_of new x) y_0 ∙ ap low same ∙ sym (owner_some x x_0)
      ];
  goes_on = λ x x_m is_new.
      let (x_0, less) = inner x x_m is_new in omega (arith, s.new_count, next_within x x_0 x_m less);
  next = λ x x_m is_new.
      let (x_0, less) = inner x x_m is_new in
      let is = s.down x x_0 x_m in
      let w_m : below x < length new = omega (arith, s.new_count, next_within x x_0 x_m less) in
      let here : slice_index new_order (below x) ≡ pos (chain x) (step x + 2) =
      s.placed (pos (chain x) (step x + 2)) (next_number x x_0 x_m less) in
      let two : pos (chain x) (step x + 2) ≡ pos (chain x) (step x + 1 + 1) = ap (pos (chain x)) (omega arith) in
      let w_0 : 0 < below x = elim (cases_eq (below x) 0) [
        | inl e ↦
            let at_top : pos (chain x) (step x + 1 + 1) ≡ to net.root =
            sym two ∙ sym here ∙ ap (slice_index new_order) e ∙ s.new_begins in
            absurd (c.not_root (chain x) (step x + 1) is.j_n less at_top)
        | inr e ↦ omega arith
      ] in
      let is_w = s.down (below x) w_0 w_m in
      let (j_same, d_same) =
      c.once (chain (below x)) (step (below x)) (chain x) (step x + 1) is_w.j_n is_w.d_n is.j_n less
      (sym is_w.here ∙ here ∙ two) in
      new_place (parent_of new (below x)) x (up (below x) w_0 w_m) x_m
      (is_w.above ∙ ap (λ j. pos j (step (below x))) j_same ∙ ap (pos (chain x)) d_same ∙ sym is.here);
  only = λ x w x_m is_new w_m up_w w_x.
      let (x_0, less) = inner x x_m is_new in
      let w_0 : 0 < w = elim (cases_eq w 0) [
        | inl e ↦ absurd (w_x (e ∙ sym s.new_tree.root ∙ ap (parent_of new) (sym e) ∙ up_w))
        | inr e ↦ omega arith
      ] in
      let is_w = s.down w w_0 w_m in
      elim (above w w_0 w_m) [
        | inl (z, e) ↦
            absurd (clash x (parent_of old (low (chain w))) is_new (up_within (chain w) is_w.j_n) (sym up_w ∙ e))
        | inr (y_0, same, more, less_y) ↦
            let j_same : chain w ≡ chain x = sym same ∙ ap chain up_w in
            let d_same : step w + 1 ≡ step x + 2 = omega (arith, more, ap step up_w) in
            new_place w (below x) w_m (omega (arith, s.new_count, next_within x x_0 x_m less))
            (is_w.here ∙ ap (λ j. pos j (step w + 1)) j_same ∙ ap (pos (chain x)) d_same
            ∙ sym (s.placed (pos (chain x) (step x + 2)) (next_number x x_0 x_m less)))
      ];
  begins = λ x x_0 x_m is.
      elim (above x x_0 x_m) [
        | inl (z, e) ↦
            let is_x = s.down x x_0 x_m in
            let none : sum_by (r (chain x)) (nodes (step x)) ≡ 0 = ap (λ (k : ℕ). sum_by (r (chain x)) (nodes k)) z in
            omega (arith, sum_of_more (r (chain x)) (step x), none, is_x.wire)
        | inr (y_0, same, more, less) ↦
            absurd (false≢true (sym (not_old (parent_of new x) y_0 (up x x_0 x_m) less) ∙ is))
      ];
  adds = λ x x_0 x_m is_new.
      elim (above x x_0 x_m) [
        | inl (z, e) ↦
            let is_x = s.down x x_0 x_m in
            absurd (clash (parent_of new x) (parent_of old (low (chain x))) is_new (up_within (chain x) is_x.j_n) e)
        | inr (y_0, same, more, less) ↦
            let is_x = s.down x x_0 x_m in
            omega (
              arith,
              sum_of_more (r (chain x)) (step x),
              ap (λ (k : ℕ). sum_by (r (chain x)) (nodes k)) more,
              ap (λ (j : ℕ). sum_by (r j) (nodes (step (parent_of new x) + 1))) same,
              is_x.wire,
            )
      ];
  all = λ u u_0 u_n.
      let (j, j_n, low_j) = c.wire_of u u_0 u_n in
      let (j_same, last) = at_chain u u_0 u_n j j_n low_j in
      ap (λ (i : ℕ). sum_by (r i) (nodes (step (at u) + 1))) j_same
      ∙ ap (λ (k : ℕ). sum_by (r j) (nodes k)) last
      ∙ c.whole j j_n
      ∙ ap (resistance old) low_j;
}
  where
    t : Chains
    t = chains_of to order low pos r place chain step

    at : ℕ → ℕ
    at u = place (to (slice_index order u))

    owner : ℕ → ℕ
    owner x = cond (eqb x 0) 0 (low (chain x))

    below : ℕ → ℕ
    below x = place (pos (chain x) (step x + 2))

    owner_some : (x : ℕ) → 0 < x → owner x ≡ low (chain x)
    owner_some x x_0 = rw (ne_eqb x 0 (λ e. omega arith)) refl

    up : (x : ℕ) → 0 < x → x < length new → parent_of new x < length new
    up x x_0 x_m = omega (arith, s.new_tree.smaller x x_0 x_m)

    new_place : (x y : ℕ) → x < length new → y < length new → slice_index new_order x ≡ slice_index new_order y → x ≡ y
    new_place x y x_m y_m same =
        one_place other.nodes new_order s.new_lists x y (omega (arith, s.new_count)) (omega (arith, s.new_count)) same

    name : (u : ℕ) → u < length old → slice_index order u < net.nodes
    name u u_n = s.lists.within u (omega (arith, s.old_count))

    at_here : (u : ℕ) → u < length old → slice_index new_order (at u) ≡ to (slice_index order u)
    at_here u u_n = s.placed (to (slice_index order u)) (s.to_within (slice_index order u) (name u u_n))

    at_within : (u : ℕ) → u < length old → at u < length new
    at_within u u_n =
        let y_m : to (slice_index order u) < other.nodes = s.to_within (slice_index order u) (name u u_n) in
        omega (arith, s.new_count, s.place_within (to (slice_index order u)) y_m)

    at_root : at 0 ≡ 0
    at_root =
        new_place (at 0) 0 (at_within 0 s.old_tree.some_node) s.new_tree.some_node
        (at_here 0 s.old_tree.some_node ∙ ap to s.begins ∙ sym s.new_begins)

    up_within : (j : ℕ) → j < length net.edges → parent_of old (low j) < length old
    up_within j j_n =
        omega (arith, s.old_tree.smaller (low j) (c.low_some j j_n) (c.low_within j j_n), c.low_within j j_n)

    at_some : (u : ℕ) → 0 < u → u < length old → 0 < at u
    at_some u u_0 u_n =
        elim (cases_eq (at u) 0) [
          | inl e ↦
              let same : slice_index order u ≡ slice_index order 0 =
              s.to_once (slice_index order u) (slice_index order 0) (name u u_n) (name 0 s.old_tree.some_node)
              (sym (at_here u u_n) ∙ ap (slice_index new_order) e ∙ s.new_begins ∙ ap to (sym s.begins)) in
              let u_m : u < net.nodes = omega (arith, s.old_count) in
              absurd (omega (arith, one_place net.nodes order s.lists u 0 u_m (omega arith) same))
          | inr e ↦ omega arith
        ]

    -- an old node stands at the end of its wire's chain
    at_chain : (u : ℕ) → 0 < u → u < length old → (j : ℕ) → j < length net.edges → low j ≡ u
        → (chain (at u) ≡ j) × (step (at u) + 1 ≡ parts)
    at_chain u u_0 u_n j j_n low_j =
        let is = s.down (at u) (at_some u u_0 u_n) (at_within u u_n) in
        elim (cases_lt (step (at u) + 1) parts) [
          | inl less ↦
              let same : pos (chain (at u)) (step (at u) + 1) ≡ to (slice_index order u) =
              sym is.here ∙ at_here u u_n in
              absurd (c.inner (chain (at u)) (step (at u)) (slice_index order u) is.j_n less (name u u_n) same)
          | inr past ↦
              let last : step (at u) + 1 ≡ parts = omega (arith, is.d_n) in
              let d_n : step (at u) < parts = is.d_n in
              let end : pos j (step (at u) + 1) ≡ to (slice_index order u) =
              ap (pos j) last ∙ c.end j j_n ∙ ap (λ v. to (slice_index order v)) low_j in
              let (j_same, d_same) =
              c.once (chain (at u)) (step (at u)) j (step (at u)) is.j_n d_n j_n d_n
              (sym is.here ∙ at_here u u_n ∙ sym end) in
              (j_same, last)
        ]

    owned : (u : ℕ) → u < length old → owner (at u) ≡ u
    owned u u_n =
        elim (cases_eq u 0) [
          | inl e ↦
              let z : at u ≡ 0 = ap at e ∙ at_root in
              ap owner z ∙ sym e
          | inr e ↦
              let (j, j_n, low_j) = c.wire_of u (omega arith) u_n in
              let (j_same, last) = at_chain u (omega arith) u_n j j_n low_j in
              owner_some (at u) (at_some u (omega arith) u_n) ∙ ap low j_same ∙ low_j
        ]

    at_old : (u : ℕ) → u < length old → is_old t (at u) ≡ true
    at_old u u_n = eq-eqb (at (owner (at u))) (at u) (ap at (owned u u_n))

    clash : (x u : ℕ) → is_old t x ≡ false → u < length old → x ≡ at u → ⊥
    clash x u is_new u_n e = false≢true (sym is_new ∙ ap (is_old t) e ∙ at_old u u_n)

    -- a new node stands before the end
    not_old : (x : ℕ) → 0 < x → x < length new → step x + 1 < parts → is_old t x ≡ false
    not_old x x_0 x_m less =
        let is = s.down x x_0 x_m in
        let u_n : owner x < length old =
        subst (λ v. v < length old) (sym (owner_some x x_0)) (c.low_within (chain x) is.j_n) in
        ne_eqb (at (owner x)) x
        (λ e. c.inner (chain x) (step x) (slice_index order (owner x)) is.j_n less (name (owner x) u_n)
        (sym is.here ∙ ap (slice_index new_order) (sym e) ∙ at_here (owner x) u_n))

    -- and else it is old
    inner : (x : ℕ) → x < length new → is_old t x ≡ false → (0 < x) × (step x + 1 < parts)
    inner x x_m is_new =
        elim (cases_eq x 0) [
          | inl e ↦ absurd (clash x 0 is_new s.old_tree.some_node (e ∙ sym at_root))
          | inr e ↦
              let x_0 : 0 < x = omega arith in
              let is = s.down x x_0 x_m in
              elim (cases_lt (step x + 1) parts) [
                | inl less ↦ (x_0, less)
                | inr past ↦
                    let last : step x + 1 ≡ parts = omega (arith, is.d_n) in
                    let u_n : low (chain x) < length old = c.low_within (chain x) is.j_n in
                    let same : at (low (chain x)) ≡ x =
                    new_place (at (low (chain x))) x (at_within (low (chain x)) u_n) x_m
                    (at_here (low (chain x)) u_n
                    ∙ sym (c.end (chain x) is.j_n)
                    ∙ ap (pos (chain x)) (sym last)
                    ∙ sym is.here) in
                    absurd (clash x (low (chain x)) is_new u_n (sym same))
              ]
        ]

    -- above a node stands the old node at the top of its chain, or the node before it in the chain
    above : (x : ℕ) → 0 < x → x < length new
        → ((step x ≡ 0) × (parent_of new x ≡ at (parent_of old (low (chain x)))))
        ⊎ ((0 < parent_of new x) × (chain (parent_of new x) ≡ chain x) × (step x ≡ step (parent_of new x) + 1)
        × (step (parent_of new x) + 1 < parts))
    above x x_0 x_m =
        let is = s.down x x_0 x_m in
        elim (cases_eq (step x) 0) [
          | inl z ↦
              let u_n : parent_of old (low (chain x)) < length old = up_within (chain x) is.j_n in
              inl (
                z,
                new_place (parent_of new x) (at (parent_of old (low (chain x)))) (up x x_0 x_m)
                    (at_within (parent_of old (low (chain x))) u_n)
                    (is.above
                    ∙ ap (pos (chain x)) z
                    ∙ c.top (chain x) is.j_n
                    ∙ sym (at_here (parent_of old (low (chain x))) u_n)),
              )
          | inr some ↦ before x x_0 x_m is (step x - 1) (omega arith)
        ]
      where
        before : (x : ℕ) → 0 < x → x < length new
            → IsDown (length net.edges) parts new new_order wires pos r index x (chain x) (step x)
            → (d : ℕ) → step x ≡ d + 1
            → ((step x ≡ 0) × (parent_of new x ≡ at (parent_of old (low (chain x)))))
            ⊎ ((0 < parent_of new x) × (chain (parent_of new x) ≡ chain x) × (step x ≡ step (parent_of new x) + 1)
            × (step (parent_of new x) + 1 < parts))
        before x x_0 x_m is d e =
            let d_n : d < parts = omega (arith, is.d_n) in
            let higher : slice_index new_order (parent_of new x) ≡ pos (chain x) (d + 1) =
            is.above ∙ ap (pos (chain x)) e in
            let y_0 : 0 < parent_of new x = elim (cases_eq (parent_of new x) 0) [
              | inl z ↦
                  absurd (c.not_root (chain x) d is.j_n d_n (sym higher ∙ ap (slice_index new_order) z ∙ s.new_begins))
              | inr some ↦ omega arith
            ] in
            let is_y = s.down (parent_of new x) y_0 (up x x_0 x_m) in
            let (j_same, d_same) =
            c.once (chain (parent_of new x)) (step (parent_of new x)) (chain x) d is_y.j_n is_y.d_n is.j_n d_n
            (sym is_y.here ∙ higher) in
            inr (y_0, j_same, omega (arith, d_same, e), omega (arith, d_same, e, is.d_n))

    next_number : (x : ℕ) → 0 < x → x < length new → step x + 1 < parts → pos (chain x) (step x + 2) < other.nodes
    next_number x x_0 x_m less =
        let two : pos (chain x) (step x + 1 + 1) ≡ pos (chain x) (step x + 2) = ap (pos (chain x)) (omega arith) in
        omega (arith, two, c.within (chain x) (step x + 1) (s.down x x_0 x_m).j_n less)

    next_within : (x : ℕ) → 0 < x → x < length new → step x + 1 < parts → below x < other.nodes
    next_within x x_0 x_m less = s.place_within (pos (chain x) (step x + 2)) (next_number x x_0 x_m less)

pub divided_tree : DividedNetsHaveDividedTrees
divided_tree parts net other to fresh d old new order new_order t u =
    let (wires, a) = t.wires in
    let (new_wires, b) = u.wires in
    let (f, is) = lows net.edges old order wires a in
    let low : ℕ → ℕ = λ j. (f j).0 in
    let ahead : ℕ → Bool = λ j. (f j).1 in
    let pos : ℕ → ℕ → ℕ = pos_in parts to fresh net.edges ahead in
    let r : ℕ → ℕ → ℕ = r_in parts net.edges ahead in
    let index : ℕ → ℕ → ℕ = index_in parts ahead in
    let c : AreChains parts net other to old order low pos r index =
    chains parts net other to fresh d old order wires t a low ahead is in
    let new_begins : slice_index new_order 0 ≡ to net.root = u.begins ∙ d.root in
    let (g, down) =
    chosen {X = ℕ × ℕ} (length new)
    (λ x w. 0 < x → IsDown (length net.edges) parts new new_order new_wires pos r index x w.0 w.1) (0, 0)
    (λ x x_m. wire_down (length net.edges) parts new new_order new_wires pos r index x
    (downs parts net other to old order low pos r index c new new_order new_wires u.a_tree new_begins b x x_m)) in
    let (place, at) = chosen {X = ℕ} other.nodes (λ y x. (x < other.nodes) × (slice_index new_order x ≡ y)) 0
    (λ y y_m. let (x, x_m, e) = u.lists.each y y_m in (x, (x_m, e))) in
    record {
      chains = chains_of to order low pos r place (λ x. (g x).0) (λ x. (g x).1);
      divided =
          divide parts net other to old order low pos r index c new new_order new_wires place (λ x. (g x).0)
          (λ x. (g x).1)
          (record {
            old_count = t.count;
            new_count = u.count;
            old_tree = t.a_tree;
            new_tree = u.a_tree;
            lists = t.lists;
            new_lists = u.lists;
            begins = t.begins;
            new_begins = new_begins;
            place_within = λ y y_m. (at y y_m).0;
            placed = λ y y_m. (at y y_m).1;
            to_within = d.within;
            to_once = d.to_once;
            down = λ x x_0 x_m. down x x_m x_0;
          })
          t.capacitances u.capacitances d.sums;
      numbers = λ v v_n.
          let y_m : to (slice_index order v) < other.nodes =
          d.within (slice_index order v) (t.lists.within v (omega (arith, t.count))) in
          (at (to (slice_index order v)) y_m).1;
    }
  where
    -- below the root or not
    wire_down : (count parts : ℕ) (new : List Node) (new_order wires : List ℕ) (pos r index : ℕ → ℕ → ℕ) (x : ℕ)
        → (0 < x → (w : ℕ × ℕ) × IsDown count parts new new_order wires pos r index x w.0 w.1)
        → (w : ℕ × ℕ) × (0 < x → IsDown count parts new new_order wires pos r index x w.0 w.1)
    wire_down count parts new new_order wires pos r index x is =
        elim (cases_eq x 0) [
          | inl e ↦ ((0, 0), λ x_0. absurd (omega arith))
          | inr e ↦ let (w, down) = is (omega arith) in (w, λ _. down)
        ]
