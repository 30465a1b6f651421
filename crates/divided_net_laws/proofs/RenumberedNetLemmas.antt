-- A divided net with other numbers is a divided net.
use Rattle.std.proofs.Common.{◌≡◌, ◌⊎◌, ℕ, ◌+◌, ◌*◌, ◌<◌, ◌≤◌, Bool, true, false, refl, sym, ap, ◌∙◌, eqb, cond, arith, inl, inr, length}
use Rattle.std.proofs.Math.Nat.{mul-le-mul_left}
use Rattle.rc_tree.specs.Chains.{edge_at}
use Rattle.divided_net_laws.specs.DividedNets.{part_of, link, RenumberedNetsAreDivided}

-- a choice is renumbered as what is chosen
of_choice : (on : ℕ → ℕ) (b : Bool) (x y : ℕ) → on (cond b x y) ≡ cond b (on x) (on y)
of_choice on true x y = refl
of_choice on false x y = refl

pub renumbered : RenumberedNetsAreDivided
renumbered parts net mid other to fresh on back d q = record {
  some = d.some;
  root = q.root ∙ ap on d.root;
  nodes = q.nodes ∙ d.nodes;
  within = λ k k_n. omega (arith, q.nodes, q.within (to k) (d.within k k_n));
  fresh_within = λ j i j_n i_0 i_p. omega (arith, q.nodes, q.within (fresh j i) (d.fresh_within j i j_n i_0 i_p));
  each = λ x x_m. each x (back x) (q.there x (node x x_m)) (d.each (back x) (q.within_back x (node x x_m)));
  to_once = λ k l k_n l_n same. d.to_once k l k_n l_n (once (to k) (to l) (d.within k k_n) (d.within l l_n) same);
  fresh_once = λ j i h g j_n h_n i_0 i_p g_0 g_p same.
      d.fresh_once j i h g j_n h_n i_0 i_p g_0 g_p
      (once (fresh j i) (fresh h g) (d.fresh_within j i j_n i_0 i_p) (d.fresh_within h g h_n g_0 g_p) same);
  apart = λ k j i k_n j_n i_0 i_p same.
      d.apart k j i k_n j_n i_0 i_p (once (to k) (fresh j i) (d.within k k_n) (d.fresh_within j i j_n i_0 i_p) same);
  count = q.count ∙ d.count;
  resistors = λ j i j_n i_p.
      q.resistors (parts * j + i) (number j i j_n i_p)
      ∙ ap (λ (e : ℕ × ℕ × ℕ). (on e.0, on e.1, e.2)) (d.resistors j i j_n i_p)
      ∙ both (of_link j i) (of_link j (i + 1)) (part_of parts (edge_at net.edges j).2 i);
  sums = λ k k_n. q.sums (to k) (d.within k k_n) ∙ d.sums k k_n;
  bare = λ j i j_n i_0 i_p. q.sums (fresh j i) (d.fresh_within j i j_n i_0 i_p) ∙ d.bare j i j_n i_0 i_p;
}
  where
    both : {x y z w : ℕ} → x ≡ y → z ≡ w → (r : ℕ) → ◌≡◌ {A = ℕ × ℕ × ℕ} (x, z, r) (y, w, r)
    both p q r = λ i. (p i, q i, r)

    node : (x : ℕ) → x < other.nodes → x < mid.nodes
    node x x_m = omega (arith, q.nodes)

    once : (x y : ℕ) → x < mid.nodes → y < mid.nodes → on x ≡ on y → x ≡ y
    once x y x_m y_m same = sym (q.again x x_m) ∙ ap back same ∙ q.again y y_m

    each : (x y : ℕ) → on y ≡ x
        → ((k : ℕ) × (k < net.nodes) × (y ≡ to k))
        ⊎ ((j : ℕ) × (i : ℕ) × (j < length net.edges) × (0 < i) × (i < parts) × (y ≡ fresh j i))
        → ((k : ℕ) × (k < net.nodes) × (x ≡ on (to k)))
        ⊎ ((j : ℕ) × (i : ℕ) × (j < length net.edges) × (0 < i) × (i < parts) × (x ≡ on (fresh j i)))
    each x y is (inl (k, k_n, e)) = inl (k, k_n, sym is ∙ ap on e)
    each x y is (inr (j, i, j_n, i_0, i_p, e)) = inr (j, i, j_n, i_0, i_p, sym is ∙ ap on e)

    number : (j i : ℕ) → j < length net.edges → i < parts → parts * j + i < length mid.edges
    number j i j_n i_p =
        let row : parts * (j + 1) ≤ parts * length net.edges = mul-le-mul_left parts (omega arith) in
        omega (arith, row, d.count)

    of_link : (j i : ℕ)
        → on (link parts to fresh net.edges j i) ≡ link parts (λ k. on (to k)) (λ j i. on (fresh j i)) net.edges j i
    of_link j i =
        of_choice on (eqb i 0) (to (edge_at net.edges j).0)
        (cond (eqb i parts) (to (edge_at net.edges j).1) (fresh j i))
        ∙ ap (cond (eqb i 0) (on (to (edge_at net.edges j).0)))
        (of_choice on (eqb i parts) (to (edge_at net.edges j).1) (fresh j i))
