-- The children of a node, and which of them is above a node below it.
use Rattle.std.proofs.Common.{◌≡◌, ◌≢◌, ℕ, zero, suc, ◌<◌, ◌≤◌, Bool, true, false, not, List, [], ◌∷◌, length, refl, sym, ap, ◌∙◌, subst, eqb, cond, arith, inl, inr}
use Rattle.std.proofs.lemmas.Bool.{cases_eq, cases_lt, eqb-true, eq-eqb, ne_eqb, and_parts, false≢true}
use Rattle.std.proofs.lemmas.List.Elements.{All-contains, All-filter, All-contains_itself, filter_passes}
use Rattle.std.proofs.lemmas.List.FromFn.{length-range_with_len, get_or-range_with_len}
use Rattle.std.specs.List.{Contains, filter}
use Rattle.elmore.specs.Laws.{children_of}
use Rattle.elmore.specs.Path.{Falls, is_over, is_child, nodes as node_numbers}
use Rattle.elmore.specs.Trees.{IsTree, parent_of}
use Rattle.elmore.specs.declared.tree.Node.{Node}
use Rattle.elmore.proofs.PathLemmas.{under, over_self, over_below, over_le}
use Rattle.elmore.proofs.TreeLemmas.{tree_falls, parent_past}

pub in_cons : {X : Type 0} (y : X) (xs : List X) (x : X) → Contains xs x → Contains (y ∷ xs) x
in_cons y xs x (k, k_n, e) = (suc k, omega arith, e)

-- what a filter keeps
pub in_filter : {X : Type 0} (test : X → Bool) (xs : List X) (x : X) → Contains xs x → test x ≡ true → Contains (filter test xs) x
in_filter test [] x (k, k_n, e) passes = absurd (omega arith)
in_filter {X} test (y ∷ xs) x (zero, k_n, e) passes = go (test y) (ap test e ∙ passes)
  where
    go : (b : Bool) → b ≡ true → Contains (cond b (y ∷ filter test xs) (filter test xs)) x
    go true _ = (0, omega arith, e)
    go false is = absurd (false≢true is)
in_filter {X} test (y ∷ xs) x (suc k, k_n, e) passes = go (test y) (in_filter test xs x (k, omega arith, e) passes)
  where
    go : (b : Bool) → Contains (filter test xs) x → Contains (cond b (y ∷ filter test xs) (filter test xs)) x
    go true found = in_cons y (filter test xs) x found
    go false found = found

pub filter_parts : {X : Type 0} (test : X → Bool) (xs : List X) (x : X) → Contains (filter test xs) x → Contains xs x × (test x ≡ true)
filter_parts {X} test xs x found = (
  All-contains (Contains xs) (filter test xs) x (All-filter test (Contains xs) xs (All-contains_itself xs)) found,
  All-contains (λ (y : X). test y ≡ true) (filter test xs) x (filter_passes test xs) found,
)

pub in_nodes : (n u : ℕ) → u < n → Contains (node_numbers n) u
in_nodes n u u_n = (u, omega (arith, length-range_with_len 0 n), omega (arith, get_or-range_with_len 0 n u u u_n))

pub nodes_in : (n u : ℕ) → Contains (node_numbers n) u → u < n
nodes_in n u (k, k_n, e) = omega (arith, length-range_with_len 0 n, get_or-range_with_len 0 n k u (omega (arith, length-range_with_len 0 n)))

-- u is a child of v
pub record IsChild (nodes : List Node) (v u : ℕ) : Type 0 where
  pub parent : parent_of nodes u ≡ v
  pub other : u ≢ v
  pub node : u < length nodes

pub child_parts : (nodes : List Node) (v u : ℕ) → Contains (children_of nodes v) u → IsChild nodes v u
child_parts nodes v u found =
    let (among, is) = filter_parts (is_child (parent_of nodes) v) (node_numbers (length nodes)) u found in
    let (up, apart) = and_parts (eqb (parent_of nodes u) v) (not (eqb u v)) is in
    record {
      parent = eqb-true (parent_of nodes u) v up;
      other = λ e. false≢true (sym (ap not (eq-eqb u v e)) ∙ apart);
      node = nodes_in (length nodes) u among;
    }

pub child_from : (nodes : List Node) (v u : ℕ) → IsChild nodes v u → Contains (children_of nodes v) u
child_from nodes v u child =
    in_filter (is_child (parent_of nodes) v) (node_numbers (length nodes)) u (in_nodes (length nodes) u child.node)
    (rw (eq-eqb (parent_of nodes u) v child.parent, ne_eqb u v child.other) refl)

-- a child has a greater number, and its parent is over it
pub child_above : (nodes : List Node) → IsTree nodes → (v u : ℕ) → IsChild nodes v u → v < u
child_above nodes t v u child =
    let low : parent_of nodes u ≤ u = tree_falls nodes t u in
    omega (arith, child.parent, child.other)

pub over_child : (nodes : List Node) → IsTree nodes → (v u : ℕ) → IsChild nodes v u → is_over (parent_of nodes) v u ≡ true
over_child nodes t v u child =
    over_below (parent_of nodes) (tree_falls nodes t) v u (λ e. child.other (sym e ∙ child.parent)) child.other
    ∙ ap (is_over (parent_of nodes) v) child.parent
    ∙ over_self (parent_of nodes) (tree_falls nodes t) v

-- a node below v is at or below a child of v
pub record IsUnderChild (nodes : List Node) (v w u : ℕ) : Type 0 where
  pub child : IsChild nodes v u
  pub over : is_over (parent_of nodes) u w ≡ true

pub child_over : (nodes : List Node) → IsTree nodes → (v w : ℕ) → is_over (parent_of nodes) v w ≡ true → w ≢ v → (u : ℕ) × IsUnderChild nodes v w u
child_over nodes t v =
    under parent falls (λ w. w ≢ v → (u : ℕ) × IsUnderChild nodes v w u) v
    (λ other. absurd (other refl))
    (λ w w_v below _ _ more _.
    elim (cases_eq (parent w) v) [
      | inl e ↦ (w, record { child = record { parent = e; other = w_v; node = inside w below }; over = over_self parent falls w })
      | inr other ↦
          let (u, is) = more other in
          (u, record { child = is.child; over = step u w below is })
    ])
  where
    parent : ℕ → ℕ
    parent = parent_of nodes

    falls : Falls (parent_of nodes)
    falls = tree_falls nodes t

    inside : (w : ℕ) → parent_of nodes w ≢ w → w < length nodes
    inside w below = elim (cases_lt w (length nodes)) [
      | inl low ↦ low
      | inr high ↦ absurd (below (parent_past nodes w high))
    ]

    step : (u w : ℕ) → parent_of nodes w ≢ w → IsUnderChild nodes v (parent_of nodes w) u → is_over (parent_of nodes) u w ≡ true
    step u w below is =
        elim (cases_eq w u) [
          | inl e ↦ subst (λ (x : ℕ). is_over (parent_of nodes) u x ≡ true) (sym e) (over_self (parent_of nodes) (tree_falls nodes t) u)
          | inr other ↦ over_below (parent_of nodes) (tree_falls nodes t) u w below other ∙ is.over
        ]

-- and of one child alone
pub one_child : (nodes : List Node) → IsTree nodes → (v u w x : ℕ) → IsChild nodes v u → IsChild nodes v w
    → is_over (parent_of nodes) u x ≡ true → is_over (parent_of nodes) w x ≡ true → u ≡ w
one_child nodes t v u w x child_u child_w over_u =
    under (parent_of nodes) (tree_falls nodes t) (λ y. is_over (parent_of nodes) w y ≡ true → u ≡ w) u
    (λ over.
    elim (cases_eq u w) [
      | inl e ↦ e
      | inr other ↦
          let up : is_over (parent_of nodes) w v ≡ true =
          ap (is_over (parent_of nodes) w) (sym child_u.parent)
          ∙ sym (over_below (parent_of nodes) (tree_falls nodes t) w u (λ e. child_u.other (sym e ∙ child_u.parent)) other) ∙ over in
          absurd (omega (arith, child_above nodes t v w child_w, over_le (parent_of nodes) (tree_falls nodes t) w v up))
    ])
    (λ y y_u below _ above more over.
    elim (cases_eq y w) [
      | inl e ↦
          let up : is_over (parent_of nodes) u v ≡ true = ap (is_over (parent_of nodes) u) (sym child_w.parent ∙ ap (parent_of nodes) (sym e)) ∙ above in
          absurd (omega (arith, child_above nodes t v u child_u, over_le (parent_of nodes) (tree_falls nodes t) u v up))
      | inr other ↦ more (sym (over_below (parent_of nodes) (tree_falls nodes t) w y below other) ∙ over)
    ])
    x over_u
