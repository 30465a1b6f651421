-- A piece with other numbers is a piece.
use Rattle.std.proofs.Common.{◌≡◌, ◌⊎◌, ℕ, ◌+◌, ◌<◌, sym, ap, ◌∙◌, subst, arith, inl, inr, length}
use Rattle.rc_tree.specs.Chains.{edge_at}
use Rattle.rc_tree.specs.Nets.{capacitance_at}
use Rattle.cut_laws.specs.Pieces.{Forest}
use Rattle.cut_laws.specs.PieceNets.{NumberedNet, IsWireOf, IsPieceNet, IsRenumbered}

pub renumbered : (f : Forest) (v : ℕ) (net other : NumberedNet) (loads stands to back : ℕ → ℕ)
    → IsPieceNet f v net loads stands → IsRenumbered net other to back
    → IsPieceNet f v other (λ k. loads (back k)) (λ k. stands (back k))
renumbered f v net other loads stands to back p q = record {
  root_node = omega (arith, q.nodes, q.root, q.within net.root p.root_node);
  root_stands = ap (λ k. stands (back k)) q.root ∙ ap stands (q.again net.root p.root_node) ∙ p.root_stands;
  within = λ k k_m. p.within (back k) (q.within_back k (node k k_m));
  inside = λ k k_m. p.inside (back k) (q.within_back k (node k k_m));
  once = λ k l k_m l_m same.
      sym (q.there k (node k k_m))
      ∙ ap to (p.once (back k) (back l) (q.within_back k (node k k_m)) (q.within_back l (node l l_m)) same)
      ∙ q.there l (node l l_m);
  each = λ w w_n inside.
      let (k, k_m, at) = p.each w w_n inside in
      (to k, omega (arith, q.nodes, q.within k k_m), ap stands (q.again k k_m) ∙ at);
  from_nodes = λ j j_n.
      omega (arith, q.nodes, ap (λ (e : ℕ × ℕ × ℕ). e.0) (q.resistors j (old j j_n)), q.within (edge_at net.edges j).0 (p.from_nodes j (old j j_n)));
  to_nodes = λ j j_n.
      omega (arith, q.nodes, ap (λ (e : ℕ × ℕ × ℕ). e.1) (q.resistors j (old j j_n)), q.within (edge_at net.edges j).1 (p.to_nodes j (old j j_n)));
  wires = λ j j_n.
      let (w, of) = p.wires j (old j j_n) in
      (w, wire j (old j j_n) w of);
  wired = λ k k_m below.
      let (j, j_n, of) = p.wired (back k) (q.within_back k (node k k_m)) below in
      (j, omega (arith, q.count), wire j j_n (stands (back k)) of);
  count = omega (arith, q.count, q.nodes, p.count);
  capacitances = λ k k_m.
      same (back k) k (q.within_back k (node k k_m)) (q.there k (node k k_m))
      ∙ p.capacitances (back k) (q.within_back k (node k k_m));
}
  where
    node : (k : ℕ) → k < other.nodes → k < net.nodes
    node k k_m = omega (arith, q.nodes)

    old : (j : ℕ) → j < length other.edges → j < length net.edges
    old j j_n = omega (arith, q.count)

    same : (l k : ℕ) → l < net.nodes → to l ≡ k
        → capacitance_at other.caps k + loads l ≡ capacitance_at net.caps l + loads l
    same l k l_m is = ap (λ x. x + loads l) (ap (capacitance_at other.caps) (sym is) ∙ q.sums l l_m)

    ends : (e : ℕ × ℕ × ℕ) (w : ℕ) → e.0 < net.nodes → e.1 < net.nodes
        → ((stands e.0 ≡ f.parent w) × (stands e.1 ≡ w)) ⊎ ((stands e.0 ≡ w) × (stands e.1 ≡ f.parent w))
        → ((stands (back (to e.0)) ≡ f.parent w) × (stands (back (to e.1)) ≡ w))
        ⊎ ((stands (back (to e.0)) ≡ w) × (stands (back (to e.1)) ≡ f.parent w))
    ends e w a b (inl (x, y)) = inl (ap stands (q.again e.0 a) ∙ x, ap stands (q.again e.1 b) ∙ y)
    ends e w a b (inr (x, y)) = inr (ap stands (q.again e.0 a) ∙ x, ap stands (q.again e.1 b) ∙ y)

    wire : (j : ℕ) → j < length net.edges → (w : ℕ) → IsWireOf f v stands w (edge_at net.edges j)
        → IsWireOf f v (λ k. stands (back k)) w (edge_at other.edges j)
    wire j j_n w of =
        subst (IsWireOf f v (λ k. stands (back k)) w) (sym (q.resistors j j_n))
        (record {
          below = of.below;
          joins = ends (edge_at net.edges j) w (p.from_nodes j j_n) (p.to_nodes j j_n) of.joins;
          resistor = of.resistor;
        })
