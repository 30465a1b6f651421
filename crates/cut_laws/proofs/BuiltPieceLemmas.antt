-- A tree that is built of a piece's resistors is the tree of the piece.
use Rattle.std.proofs.Common.{◌≡◌, ◌≢◌, ◌⊎◌, ℕ, ◌+◌, ◌<◌, true, List, [], ◌∷◌, ◌++◌, refl, sym, ap, ◌∙◌, subst, arith, inl, inr, length, slice_index}
use Rattle.std.proofs.lemmas.Bool.{cases_eq, cases_lt}
use Rattle.elmore.specs.Path.{Falls}
use Rattle.elmore.specs.Trees.{IsTree, parent_of, resistance}
use Rattle.elmore.specs.declared.tree.Node.{Node}
use Rattle.elmore.proofs.PathLemmas.{under}
use Rattle.elmore.proofs.RootLemmas.{from_root}
use Rattle.elmore.proofs.TreeLemmas.{tree_of}
use Rattle.rc_tree.specs.Chains.{edge_at, Joins, AreNeighbours, IsChain, AreJoined}
use Rattle.rc_tree.specs.Faults.{NoneFloats}
use Rattle.rc_tree.specs.Answers.{ListsAll, IsWire}
use Rattle.cut_laws.specs.Pieces.{Forest, in_piece, IsPieceOf}
use Rattle.cut_laws.specs.PieceNets.{NumberedNet, IsTreeOfNet, IsWireOf, IsPieceNet, HasLoads}
use Rattle.cut_laws.proofs.PieceLemmas.{stage_in_piece, over_piece, piece_above}

-- a copy of rc_tree's lemma, which it does not export: no node has two places in the order
one_place : (n : ℕ) (order : List ℕ) → ListsAll n order → (i k : ℕ) → i < n → k < n → slice_index order i ≡ slice_index order k → i ≡ k
one_place n order l i k i_n k_n same =
    elim (cases_eq i k) [
      | inl e ↦ e
      | inr e ↦ elim (cases_lt i k) [
        | inl low ↦ absurd (l.once i k low k_n same)
        | inr high ↦ absurd (l.once k i (omega arith) i_n (sym same))
      ]
    ]

-- the node i of the tree has the parent and the resistor of the node that it stands for
record IsWired (f : Forest) (stands : ℕ → ℕ) (built : List Node) (order : List ℕ) (i : ℕ) : Type 0 where
  pub edge : stands (slice_index order (parent_of built i)) ≡ f.parent (stands (slice_index order i))
  pub wire : resistance built i ≡ f.r (stands (slice_index order i))

-- each wire of the tree leads away from the root, as in the net
wired : (f : Forest) (v : ℕ) (net : NumberedNet) (loads stands : ℕ → ℕ)
    → IsPieceNet f v net loads stands
    → (built : List Node) (order : List ℕ) → IsTreeOfNet net built order
    → (i : ℕ) → i < length built → 0 < i → IsWired f stands built order i
wired f v net loads stands p built order t =
    from_root (parent_of built) (length built) (tree_of built t.a_tree) (λ i. 0 < i → IsWired f stands built order i)
    (λ no. absurd (omega arith))
    (λ i i_0 i_m more _.
    let (wires, are) = t.wires in
    let wire : IsWire net.edges built order i (slice_index wires i) = are.wire i i_0 i_m in
    let (w, of) = p.wires (slice_index wires i) wire.number in
    step i i_0 i_m more (edge_at net.edges (slice_index wires i)) w wire.joins wire.r of of.joins)
  where
    at : ℕ → ℕ
    at i = stands (slice_index order i)

    at_0 : at 0 ≡ v
    at_0 = ap stands t.begins ∙ p.root_stands

    one : (i k : ℕ) → i < length built → k < length built → at i ≡ at k → i ≡ k
    one i k i_m k_m same =
        let i_n : i < net.nodes = omega (arith, t.count) in
        let k_n : k < net.nodes = omega (arith, t.count) in
        one_place net.nodes order t.lists i k i_n k_n (p.once (slice_index order i) (slice_index order k) (t.lists.within i i_n) (t.lists.within k k_n) same)

    -- it cannot lead back
    back : (i : ℕ) → 0 < i → i < length built → (0 < parent_of built i → IsWired f stands built order (parent_of built i))
        → (w : ℕ) → w ≢ v → at (parent_of built i) ≡ w → at i ≡ f.parent w → ⊥
    back i i_0 i_m more w w_v up low =
        elim (cases_eq (parent_of built i) 0) [
          | inl e ↦ w_v (sym up ∙ ap at e ∙ at_0)
          | inr e ↦
              let small : parent_of built i < i = t.a_tree.smaller i i_0 i_m in
              let smaller : parent_of built (parent_of built i) < parent_of built i = t.a_tree.smaller (parent_of built i) (omega arith) (omega arith) in
              let same : parent_of built (parent_of built i) ≡ i =
              one (parent_of built (parent_of built i)) i (omega arith) i_m
              ((more (omega arith)).edge ∙ ap f.parent up ∙ sym low) in
              omega arith
        ]

    step : (i : ℕ) → 0 < i → i < length built → (0 < parent_of built i → IsWired f stands built order (parent_of built i))
        → (edge : ℕ × ℕ × ℕ) (w : ℕ) → Joins edge (slice_index order (parent_of built i)) (slice_index order i) → resistance built i ≡ edge.2
        → IsWireOf f v stands w edge
        → ((stands edge.0 ≡ f.parent w) × (stands edge.1 ≡ w)) ⊎ ((stands edge.0 ≡ w) × (stands edge.1 ≡ f.parent w))
        → IsWired f stands built order i
    step i i_0 i_m more edge w (inl (a, b)) res of (inl (x, y)) = record {
      edge = ap stands (sym a) ∙ x ∙ ap f.parent (sym y ∙ ap stands b);
      wire = res ∙ of.resistor ∙ ap f.r (sym y ∙ ap stands b);
    }
    step i i_0 i_m more edge w (inr (a, b)) res of (inr (x, y)) = record {
      edge = ap stands (sym b) ∙ y ∙ ap f.parent (sym x ∙ ap stands a);
      wire = res ∙ of.resistor ∙ ap f.r (sym x ∙ ap stands a);
    }
    step i i_0 i_m more edge w (inl (a, b)) res of (inr (x, y)) = absurd (back i i_0 i_m more w of.below (ap stands (sym a) ∙ x) (ap stands (sym b) ∙ y))
    step i i_0 i_m more edge w (inr (a, b)) res of (inl (x, y)) = absurd (back i i_0 i_m more w of.below (ap stands (sym b) ∙ y) (ap stands (sym a) ∙ x))

-- with the loads of its pins it is a tree still
loaded_tree : (built loaded : List Node) (order : List ℕ) (loads : ℕ → ℕ) → IsTree built → HasLoads built order loads loaded → IsTree loaded
loaded_tree built loaded order loads t l = record {
  some_node = omega (arith, t.some_node, l.count);
  root = l.parents 0 t.some_node ∙ t.root;
  bare_root = l.resistances 0 t.some_node ∙ t.bare_root;
  smaller = λ v v_0 v_n.
      let v_m : v < length built = omega (arith, l.count) in
      omega (arith, l.parents v v_m, t.smaller v v_0 v_m);
}

pub built_piece : (f : Forest) (v : ℕ) (net : NumberedNet) (loads stands : ℕ → ℕ)
    → IsPieceNet f v net loads stands
    → (built loaded : List Node) (order : List ℕ) → IsTreeOfNet net built order → HasLoads built order loads loaded
    → IsPieceOf f v loaded (λ i. stands (slice_index order i))
built_piece f v net loads stands p built loaded order t l = record {
  a_tree = loaded_tree built loaded order loads t.a_tree l;
  root = ap stands t.begins ∙ p.root_stands;
  within = λ i i_m. p.within (slice_index order i) (t.lists.within i (small i i_m));
  inside = λ i i_m. p.inside (slice_index order i) (t.lists.within i (small i i_m));
  once = λ i k i_m k_m same.
      one_place net.nodes order t.lists i k (small i i_m) (small k k_m)
      (p.once (slice_index order i) (slice_index order k) (t.lists.within i (small i i_m)) (t.lists.within k (small k k_m)) same);
  each = λ w w_n inside.
      let (k, k_m, stands_k) = p.each w w_n inside in
      let (i, i_m, order_i) = t.lists.each k k_m in
      (i, omega (arith, l.count, t.count), ap stands order_i ∙ stands_k);
  edges = λ i i_0 i_m.
      ap (λ k. stands (slice_index order k)) (l.parents i (built_i i i_m))
      ∙ (wired f v net loads stands p built order t i (built_i i i_m) i_0).edge;
  wires = λ i i_0 i_m.
      l.resistances i (built_i i i_m)
      ∙ (wired f v net loads stands p built order t i (built_i i i_m) i_0).wire;
  capacitances = λ i i_m.
      l.capacitances i (built_i i i_m)
      ∙ ap (λ x. x + loads (slice_index order i)) (t.capacitances i (small i i_m))
      ∙ p.capacitances (slice_index order i) (t.lists.within i (small i i_m));
}
  where
    small : (i : ℕ) → i < length loaded → i < net.nodes
    small i i_m = omega (arith, l.count, t.count)

    built_i : (i : ℕ) → i < length loaded → i < length built
    built_i i i_m = omega (arith, l.count)

-- copies of rc_tree's lemmas, which it does not export: a chain with one more resistor
chain_more : (edges : List (ℕ × ℕ × ℕ)) (u : ℕ) (path : List ℕ) (v w : ℕ) → IsChain edges u path v → AreNeighbours edges v w
    → IsChain edges u (path ++ (w ∷ [])) w
chain_more edges u [] v w chain next = (subst (λ (x : ℕ). AreNeighbours edges x w) (sym chain) next, refl)
chain_more edges u (x ∷ path) v w chain next = (chain.0, chain_more edges x path v w chain.1 next)

joined_more : (edges : List (ℕ × ℕ × ℕ)) (u v w : ℕ) → AreJoined edges u v → AreNeighbours edges v w → AreJoined edges u w
joined_more edges u v w (path, chain) next = (path ++ (w ∷ []), chain_more edges u path v w chain next)

-- each node of a piece is joined to its root
pub piece_joined : (f : Forest) (v : ℕ) (net : NumberedNet) (loads stands : ℕ → ℕ)
    → Falls f.parent → IsPieceNet f v net loads stands → NoneFloats net.nodes net.edges net.root
piece_joined f v net loads stands falls p k k_m =
    under f.parent falls (λ w. (k : ℕ) → k < net.nodes → stands k ≡ w → AreJoined net.edges net.root k) v
    (λ k k_m is. ([], sym (p.once k net.root k_m p.root_node (is ∙ sym p.root_stands))))
    (λ w w_v edge over _ more k k_m is.
    let inside : in_piece f v w ≡ true = ap (in_piece f v) (sym is) ∙ p.inside k k_m in
    let w_n : w < f.n = subst (λ x. x < f.n) is (p.within k k_m) in
    let above : in_piece f v (f.parent w) ≡ true = stage_in_piece f v (f.parent w) (piece_above f falls v w inside w_v) in
    let (l, l_m, stands_l) = p.each (f.parent w) (omega (arith, falls w)) above in
    let (j, j_n, of) = p.wired k k_m (λ e. w_v (sym is ∙ e)) in
    joined_more net.edges net.root l k (more l l_m stands_l)
    (j, j_n, joins l k j l_m k_m j_n (stands_l ∙ ap f.parent (sym is)) of.joins))
    (stands k) (over_piece f v (stands k) (p.inside k k_m)) k k_m refl
  where
    joins : (l k j : ℕ) → l < net.nodes → k < net.nodes → j < length net.edges → stands l ≡ f.parent (stands k)
        → ((stands (edge_at net.edges j).0 ≡ f.parent (stands k)) × (stands (edge_at net.edges j).1 ≡ stands k))
        ⊎ ((stands (edge_at net.edges j).0 ≡ stands k) × (stands (edge_at net.edges j).1 ≡ f.parent (stands k)))
        → Joins (edge_at net.edges j) l k
    joins l k j l_m k_m j_n up (inl (x, y)) = inl (
      p.once (edge_at net.edges j).0 l (p.from_nodes j j_n) l_m (x ∙ sym up),
      p.once (edge_at net.edges j).1 k (p.to_nodes j j_n) k_m y,
    )
    joins l k j l_m k_m j_n up (inr (x, y)) = inr (
      p.once (edge_at net.edges j).0 k (p.from_nodes j j_n) k_m x,
      p.once (edge_at net.edges j).1 l (p.to_nodes j j_n) l_m (y ∙ sym up),
    )
