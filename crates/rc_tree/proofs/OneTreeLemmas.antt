-- A net has one tree: two answers agree node by node.
use Rattle.std.proofs.Common.{◌≡◌, ◌≢◌, ℕ, suc, zero, ◌<◌, ◌≤◌, ◌⊎◌, List, sym, ap, ◌∙◌, arith, inl, inr, subst, slice_index}
use Rattle.std.proofs.lemmas.Bool.{cases_eq, cases_lt}
use Rattle.std.proofs.lemmas.List.{ext_get_or, get_or_default}
use Rattle.std.proofs.lemmas.Grind.{same_number_lists}
use Rattle.elmore.specs.Trees.{node_at, parent_of, resistance}
use Rattle.elmore.specs.declared.tree.Node.{Node}
use Rattle.rc_tree.specs.Chains.{edge_at, Joins}
use Rattle.rc_tree.specs.Nets.{capacitance_at}
use Rattle.rc_tree.specs.Answers.{ListsAll, AreWires, IsTreeOf}
use Rattle.rc_tree.specs.Laws.{OneTree}
use Rattle.rc_tree.proofs.PlaceLemmas.{other_end}

-- the two answers are alike before the node k
record AreAlike (tree others : List Node) (order numbers wires links : List ℕ) (k : ℕ) : Type 0 where
  pub orders : (i : ℕ) → i < k → slice_index order i ≡ slice_index numbers i
  pub parents : (i : ℕ) → 0 < i → i < k → parent_of tree i ≡ parent_of others i
  pub wired : (i : ℕ) → 0 < i → i < k → slice_index wires i ≡ slice_index links i

alike_back : (tree others : List Node) (order numbers wires links : List ℕ) (k : ℕ) → AreAlike tree others order numbers wires links k → AreAlike others tree numbers order links wires k
alike_back tree others order numbers wires links k a = record {
  orders = λ i i_k. sym (a.orders i i_k);
  parents = λ i some i_k. sym (a.parents i some i_k);
  wired = λ i some i_k. sym (a.wired i some i_k);
}

one_place : (n : ℕ) (order : List ℕ) → ListsAll n order → (i k : ℕ) → i < n → k < n → slice_index order i ≡ slice_index order k → i ≡ k
one_place n order l i k i_n k_n same =
    elim (cases_eq i k) [
      | inl e ↦ e
      | inr e ↦ elim (cases_lt i k) [
        | inl low ↦ absurd (l.once i k low k_n same)
        | inr high ↦ absurd (l.once k i (omega arith) i_n (sym same))
      ]
    ]

-- where the other answer has the wire of the node k
found : (n root : ℕ) (caps : List (ℕ × ℕ)) (edges : List (ℕ × ℕ × ℕ)) (tree others : List Node) (order numbers wires links : List ℕ)
    → IsTreeOf n root caps edges tree order → AreWires edges tree order wires
    → IsTreeOf n root caps edges others numbers → AreWires edges others numbers links
    → (k : ℕ) → 0 < k → k < n → AreAlike tree others order numbers wires links k
    → (i : ℕ) × (k ≤ i) × (i < n) × (parent_of others i ≡ parent_of tree k) × (slice_index links i ≡ slice_index wires k)
found n root caps edges tree others order numbers wires links t w u v k some k_n a =
    let wire = w.wire k some (omega (arith, t.count)) in
    let (i, below, i_size, at) = v.each (slice_index wires k) wire.number in
    let i_n : i < n = omega (arith, u.count) in
    let above : parent_of tree k < k = t.a_tree.smaller k some (omega (arith, t.count)) in
    let late : k ≤ i =
    elim (cases_lt i k) [
      | inl low ↦ absurd (w.once i k below low (omega (arith, t.count)) (a.wired i below low ∙ at))
      | inr high ↦ high
    ] in
    let higher : parent_of others i < i = u.a_tree.smaller i below i_size in (
      i,
      late,
      i_n,
      parent i i_n late above higher wire.joins (subst (λ (j : ℕ). Joins (edge_at edges j) (slice_index numbers (parent_of others i)) (slice_index numbers i)) at (v.wire i below i_size).joins),
      at,
    )
  where
    parent : (i : ℕ) → i < n → k ≤ i → parent_of tree k < k → parent_of others i < i
        → Joins (edge_at edges (slice_index wires k)) (slice_index order (parent_of tree k)) (slice_index order k)
        → Joins (edge_at edges (slice_index wires k)) (slice_index numbers (parent_of others i)) (slice_index numbers i)
        → parent_of others i ≡ parent_of tree k
    parent i i_n late above higher (inl (b, c)) (inl (d, e)) = one_place n numbers u.lists (parent_of others i) (parent_of tree k) (omega arith) (omega arith) (sym d ∙ b ∙ a.orders (parent_of tree k) above)
    parent i i_n late above higher (inr (b, c)) (inr (d, e)) = one_place n numbers u.lists (parent_of others i) (parent_of tree k) (omega arith) (omega arith) (sym e ∙ c ∙ a.orders (parent_of tree k) above)
    parent i i_n late above higher (inl (b, c)) (inr (d, e)) =
        let same : i ≡ parent_of tree k = one_place n numbers u.lists i (parent_of tree k) i_n (omega arith) (sym d ∙ b ∙ a.orders (parent_of tree k) above) in
        absurd (omega arith)
    parent i i_n late above higher (inr (b, c)) (inl (d, e)) =
        let same : i ≡ parent_of tree k = one_place n numbers u.lists i (parent_of tree k) i_n (omega arith) (sym e ∙ c ∙ a.orders (parent_of tree k) above) in
        absurd (omega arith)

-- the node k has the same parent by the same wire
same_wire : (n root : ℕ) (caps : List (ℕ × ℕ)) (edges : List (ℕ × ℕ × ℕ)) (tree others : List Node) (order numbers wires links : List ℕ)
    → IsTreeOf n root caps edges tree order → AreWires edges tree order wires
    → IsTreeOf n root caps edges others numbers → AreWires edges others numbers links
    → (k : ℕ) → 0 < k → k < n → AreAlike tree others order numbers wires links k
    → (parent_of tree k ≡ parent_of others k) × (slice_index wires k ≡ slice_index links k)
same_wire n root caps edges tree others order numbers wires links t w u v k some k_n a =
    let (i, k_i, i_n, i_parent, i_wire) = found n root caps edges tree others order numbers wires links t w u v k some k_n a in
    let (h, k_h, h_n, h_parent, h_wire) =
    found n root caps edges others tree numbers order links wires u v t w k some k_n (alike_back tree others order numbers wires links k a) in
    elim (cases_eq i k) [
      | inl e ↦ (sym (ap (parent_of others) (sym e) ∙ i_parent), sym (ap (slice_index links) (sym e) ∙ i_wire))
      | inr e ↦ elim (cases_eq h k) [
        | inl f ↦ (ap (parent_of tree) (sym f) ∙ h_parent, ap (slice_index wires) (sym f) ∙ h_wire)
        | inr f ↦
            absurd (elim (v.breadth_first k i some (omega arith) (omega (arith, u.count))) [
              | inl low ↦ elim (w.breadth_first k h some (omega arith) (omega (arith, t.count))) [
                | inl down ↦ omega arith
                | inr (same, down) ↦ omega arith
              ]
              | inr (equal, low) ↦ elim (w.breadth_first k h some (omega arith) (omega (arith, t.count))) [
                | inl down ↦ omega arith
                | inr (same, down) ↦ omega arith
              ]
            ])
      ]
    ]

alike_next : (n root : ℕ) (caps : List (ℕ × ℕ)) (edges : List (ℕ × ℕ × ℕ)) (tree others : List Node) (order numbers wires links : List ℕ)
    → IsTreeOf n root caps edges tree order
    → AreWires edges tree order wires
    → IsTreeOf n root caps edges others numbers
    → AreWires edges others numbers links
    → (k : ℕ) → k < n → AreAlike tree others order numbers wires links k
    → AreAlike tree others order numbers wires links (suc k)
alike_next n root caps edges tree others order numbers wires links t w u v k k_n before = record {
  orders = λ i low. elim (cases_eq i k) [
    | inl e ↦ ap (slice_index order) e ∙ node (cases_eq k 0) ∙ ap (slice_index numbers) (sym e)
    | inr e ↦ before.orders i (omega arith)
  ];
  parents = λ i some low. elim (cases_eq i k) [
    | inl e ↦ ap (parent_of tree) e ∙ (wire (omega arith)).0 ∙ ap (parent_of others) (sym e)
    | inr e ↦ before.parents i some (omega arith)
  ];
  wired = λ i some low. elim (cases_eq i k) [
    | inl e ↦ ap (slice_index wires) e ∙ (wire (omega arith)).1 ∙ ap (slice_index links) (sym e)
    | inr e ↦ before.wired i some (omega arith)
  ];
}
  where
    wire : 0 < k → (parent_of tree k ≡ parent_of others k) × (slice_index wires k ≡ slice_index links k)
    wire some = same_wire n root caps edges tree others order numbers wires links t w u v k some (omega arith) before

    node : (k ≡ 0) ⊎ (k ≢ 0) → slice_index order k ≡ slice_index numbers k
    node (inl e) = ap (slice_index order) e ∙ t.begins ∙ sym u.begins ∙ ap (slice_index numbers) (sym e)
    node (inr e) =
        let some : 0 < k = omega arith in
        let above : parent_of tree k < k = t.a_tree.smaller k some (omega (arith, t.count)) in
        other_end (edge_at edges (slice_index links k)) (slice_index numbers (parent_of others k)) (slice_index numbers k) (slice_index order k)
        (v.wire k some (omega (arith, u.count))).joins
        (subst (λ (x : ℕ). Joins (edge_at edges (slice_index links k)) x (slice_index order k))
        (before.orders (parent_of tree k) above ∙ ap (slice_index numbers) (wire some).0)
        (subst (λ (j : ℕ). Joins (edge_at edges j) (slice_index order (parent_of tree k)) (slice_index order k)) (wire some).1 (w.wire k some (omega (arith, t.count))).joins))

alike : (n root : ℕ) (caps : List (ℕ × ℕ)) (edges : List (ℕ × ℕ × ℕ)) (tree others : List Node) (order numbers wires links : List ℕ)
    → IsTreeOf n root caps edges tree order → AreWires edges tree order wires
    → IsTreeOf n root caps edges others numbers → AreWires edges others numbers links
    → (k : ℕ) → k ≤ n → AreAlike tree others order numbers wires links k
alike n root caps edges tree others order numbers wires links t w u v zero k_n = record {
  orders = λ i low. absurd (omega arith);
  parents = λ i some low. absurd (omega arith);
  wired = λ i some low. absurd (omega arith);
}
alike n root caps edges tree others order numbers wires links t w u v (suc k) k_n =
    alike_next n root caps edges tree others order numbers wires links t w u v k (omega arith)
    (alike n root caps edges tree others order numbers wires links t w u v k (omega arith))

node_same : (a b : Node) → a.parent ≡ b.parent → a.r ≡ b.r → a.c ≡ b.c → a ≡ b
node_same a b parent r c = λ i. record { parent = parent i; r = r i; c = c i }

pub one_tree : OneTree
one_tree n root caps edges tree others order numbers t u = (trees, orders)
  where
    same : AreAlike tree others order numbers t.wires.0 u.wires.0 n
    same = alike n root caps edges tree others order numbers t.wires.0 u.wires.0 t t.wires.1 u u.wires.1 n (omega arith)

    orders : order ≡ numbers
    orders = same_number_lists order numbers (t.lists.count ∙ sym u.lists.count) (λ i low. same.orders i (omega (arith, t.lists.count)))

    parent : (i : ℕ) → i < n → (i ≡ 0) ⊎ (i ≢ 0) → parent_of tree i ≡ parent_of others i
    parent i i_n (inl e) = ap (parent_of tree) e ∙ t.a_tree.root ∙ sym u.a_tree.root ∙ ap (parent_of others) (sym e)
    parent i i_n (inr e) = same.parents i (omega arith) i_n

    r : (i : ℕ) → i < n → (i ≡ 0) ⊎ (i ≢ 0) → resistance tree i ≡ resistance others i
    r i i_n (inl e) = ap (resistance tree) e ∙ t.a_tree.bare_root ∙ sym u.a_tree.bare_root ∙ ap (resistance others) (sym e)
    r i i_n (inr e) =
        (t.wires.1.wire i (omega arith) (omega (arith, t.count))).r
        ∙ ap (λ (j : ℕ). (edge_at edges j).2) (same.wired i (omega arith) i_n)
        ∙ sym (u.wires.1.wire i (omega arith) (omega (arith, u.count))).r

    node : (i : ℕ) → i < n → node_at tree i ≡ node_at others i
    node i i_n =
        node_same (node_at tree i) (node_at others i) (parent i i_n (cases_eq i 0)) (r i i_n (cases_eq i 0))
        (t.capacitances i i_n ∙ ap (capacitance_at caps) (same.orders i i_n) ∙ sym (u.capacitances i i_n))

    none : Node
    none = record { parent = 0; r = 0; c = 0 }

    trees : tree ≡ others
    trees = ext_get_or none tree others (t.count ∙ sym u.count)
        (λ i low.
        get_or_default tree i none (record { parent = i; r = 0; c = 0 }) low
        ∙ node i (omega (arith, t.count))
        ∙ get_or_default others i (record { parent = i; r = 0; c = 0 }) none (omega (arith, t.count, u.count)))
