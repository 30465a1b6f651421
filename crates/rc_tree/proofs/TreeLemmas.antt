-- The places of a search as a tree.
use Rattle.std.proofs.Common.{◌≡◌, ◌≢◌, ℕ, ◌+◌, ◌<◌, List, map, sym, ap, ◌∙◌, arith, inl, inr, length, get_or, subst}
use Rattle.std.proofs.lemmas.List.{get_or-map, get_or_past, length-map}
use Rattle.elmore.specs.Trees.{IsTree, node_at, parent_of, resistance}
use Rattle.elmore.specs.declared.tree.Node.{Node}
use Rattle.rc_tree.specs.Chains.{edge_at, Joins}
use Rattle.rc_tree.specs.Nets.{cap_at, capacitance_at}
use Rattle.rc_tree.specs.Answers.{IsWire, AreWires, IsTreeOf}
use Rattle.rc_tree.specs.Search.{place_at, node_of, IsSeen, HavePlaces, IsWiredTo, AreReached, IsSearch}
use Rattle.rc_tree.specs.declared.search.Place.{Place}
use Rattle.rc_tree.proofs.JoinLemmas.{places_all, all_joined}
use Rattle.rc_tree.proofs.PigeonholeLemmas.{each_hit}

node_is : (edges : List (ℕ × ℕ × ℕ)) (caps : List (ℕ × ℕ)) (places : List Place) (i : ℕ) → i < length places → node_at (map (node_of edges caps) places) i ≡ node_of edges caps (place_at places i)
node_is edges caps places i i_n = get_or-map (node_of edges caps) places i (record { node = 0; parent = 0; edge = 0 }) (record { parent = i; r = 0; c = 0 }) i_n

number_is : (f : Place → ℕ) (places : List Place) (i : ℕ) → i < length places → get_or (map f places) i 0 ≡ f (place_at places i)
number_is f places i i_n = get_or-map f places i (record { node = 0; parent = 0; edge = 0 }) 0 i_n

parent_is : (edges : List (ℕ × ℕ × ℕ)) (caps : List (ℕ × ℕ)) (places : List Place) (i : ℕ) → i < length places → parent_of (map (node_of edges caps) places) i ≡ (place_at places i).parent
parent_is edges caps places i i_n = ap (λ (x : Node). x.parent) (node_is edges caps places i i_n)

pub a_tree : (n root : ℕ) (edges : List (ℕ × ℕ × ℕ)) (places : List Place) (caps : List (ℕ × ℕ)) → AreReached n root edges places → IsTree (map (node_of edges caps) places)
a_tree n root edges places caps r = record {
  some_node = omega (arith, length-map places (node_of edges caps), r.some);
  root = parent_is edges caps places 0 r.some ∙ r.root_parent;
  bare_root = ap (λ (x : Node). x.r) (node_is edges caps places 0 r.some) ∙ ap (λ (j : ℕ). (edge_at edges j).2) r.root_edge
      ∙ ap (λ (e : ℕ × ℕ × ℕ). e.2) (get_or_past edges (length edges) (0, 0, 0) (omega arith));
  smaller = λ v some v_n.
      let low : v < length places = omega (arith, length-map places (node_of edges caps)) in
      omega (arith, parent_is edges caps places v low, r.above v some low);
}

-- the resistors of two places are two
apart : (n root : ℕ) (edges : List (ℕ × ℕ × ℕ)) (places : List Place) → AreReached n root edges places
    → (i k : ℕ) → 0 < i → i < k → k < length places → (place_at places i).edge ≢ (place_at places k).edge
apart n root edges places r i k some i_k k_n same =
    clash (r.wired i some (omega arith)).joins
    (subst (λ (j : ℕ). Joins (edge_at edges j) (place_at places (place_at places k).parent).node (place_at places k).node) (sym same) (r.wired k (omega arith) k_n).joins)
  where
    clash : Joins (edge_at edges (place_at places i).edge) (place_at places (place_at places i).parent).node (place_at places i).node
        → Joins (edge_at edges (place_at places i).edge) (place_at places (place_at places k).parent).node (place_at places k).node
        → ⊥
    clash (inl (a, b)) (inl (c, d)) = r.once i k i_k k_n (sym b ∙ d)
    clash (inl (a, b)) (inr (c, d)) = r.once (place_at places i).parent k (omega (arith, r.above i some (omega arith))) k_n (sym a ∙ c)
    clash (inr (a, b)) (inl (c, d)) = r.once (place_at places i).parent k (omega (arith, r.above i some (omega arith))) k_n (sym b ∙ d)
    clash (inr (a, b)) (inr (c, d)) = r.once i k i_k k_n (sym a ∙ c)

-- each resistor is that of a place
used : (n root : ℕ) (edges : List (ℕ × ℕ × ℕ)) (places : List Place) → AreReached n root edges places → length edges + 1 ≡ length places
    → (j : ℕ) → j < length edges → (i : ℕ) × (0 < i) × (i < length places) × ((place_at places i).edge ≡ j)
used n root edges places r count j j_m =
    let (i, i_m, at) = each_hit (length edges) (λ i. (place_at places (i + 1)).edge)
    (λ i i_m. (r.wired (i + 1) (omega arith) (omega arith)).number)
    (λ i k i_k k_m. apart n root edges places r (i + 1) (k + 1) (omega arith) (omega arith) (omega arith))
    j j_m in
    (i + 1, omega arith, omega arith, at)

wire_is : (edges : List (ℕ × ℕ × ℕ)) (tree : List Node) (order : List ℕ) (i j : ℕ) (places : List Place) (p : Place) → IsWiredTo edges places p
    → j ≡ p.edge
    → get_or order (parent_of tree i) 0 ≡ (place_at places p.parent).node
    → get_or order i 0 ≡ p.node
    → resistance tree i ≡ (edge_at edges p.edge).2
    → IsWire edges tree order i j
wire_is edges tree order i j places p wired edge above node r = record {
  number = omega (arith, wired.number);
  joins =
      subst (λ (k : ℕ). Joins (edge_at edges k) (get_or order (parent_of tree i) 0) (get_or order i 0)) (sym edge)
      (subst (λ (v : ℕ). Joins (edge_at edges p.edge) v (get_or order i 0)) (sym above)
      (subst (λ (v : ℕ). Joins (edge_at edges p.edge) (place_at places p.parent).node v) (sym node) wired.joins));
  r = r ∙ ap (λ (k : ℕ). (edge_at edges k).2) (sym edge);
}

wires_are : (n root : ℕ) (edges : List (ℕ × ℕ × ℕ)) (places : List Place) (caps : List (ℕ × ℕ)) → AreReached n root edges places → length edges + 1 ≡ length places
    → AreWires edges (map (node_of edges caps) places) (map (λ (p : Place). p.node) places) (map (λ (p : Place). p.edge) places)
wires_are n root edges places caps r count = record {
  wire = λ i some i_n.
      let low : i < length places = omega (arith, size) in
      wire_is edges (map (node_of edges caps) places) (map (λ (p : Place). p.node) places) i (get_or (map (λ (p : Place). p.edge) places) i 0) places (place_at places i)
      (r.wired i some low)
      (edge i low)
      (ap (λ (k : ℕ). get_or (map (λ (p : Place). p.node) places) k 0) (parent_is edges caps places i low)
      ∙ number_is (λ p. p.node) places (place_at places i).parent (omega (arith, r.above i some low)))
      (number_is (λ p. p.node) places i low)
      (ap (λ (x : Node). x.r) (node_is edges caps places i low));
  once = λ i k some i_k k_n same.
      let low : k < length places = omega (arith, size) in
      apart n root edges places r i k some i_k low (sym (edge i (omega arith)) ∙ same ∙ edge k low);
  each = λ j j_m.
      let (i, some, i_n, at) = used n root edges places r count j j_m in
      (i, some, omega (arith, size), edge i i_n ∙ at);
  breadth_first = λ i k some i_k k_n.
      let low : k < length places = omega (arith, size) in
      let first : i < length places = omega arith in
      elim (r.breadth_first i k some i_k low) [
        | inl before ↦ inl (omega (arith, parent_is edges caps places i first, parent_is edges caps places k low))
        | inr (same, before) ↦
            inr (parent_is edges caps places i first ∙ same ∙ sym (parent_is edges caps places k low), omega (arith, edge i first, edge k low))
      ];
}
  where
    size : length (map (node_of edges caps) places) ≡ length places
    size = length-map places (node_of edges caps)

    edge : (i : ℕ) → i < length places → get_or (map (λ (p : Place). p.edge) places) i 0 ≡ (place_at places i).edge
    edge = number_is (λ p. p.edge) places

pub tree_done : (n root : ℕ) (caps : List (ℕ × ℕ)) (edges : List (ℕ × ℕ × ℕ)) (places : List Place) (ranks : List ℕ)
    → IsSearch n root edges places ranks
    → ((v : ℕ) → v < length ranks → IsSeen ranks v)
    → length edges + 1 ≡ n
    → IsTreeOf n root caps edges (map (node_of edges caps) places) (map (λ (p : Place). p.node) places)
tree_done n root caps edges places ranks s all count = record {
  count = length-map places (node_of edges caps) ∙ full;
  a_tree = a_tree n root edges places caps s.reached;
  lists = record {
    count = length-map places (λ (p : Place). p.node) ∙ full;
    within = λ i i_n. omega (arith, node i i_n, s.reached.within i (omega (arith, full)));
    once = λ i k i_k k_n same. s.reached.once i k i_k (omega (arith, full)) (sym (node i (omega arith)) ∙ same ∙ node k k_n);
    each = λ v v_n.
        let (i, i_n, at) = s.marks.found v (all v (omega (arith, s.marks.nodes))) in
        (i, omega (arith, full), node i (omega (arith, full)) ∙ at);
  };
  begins = node 0 (omega (arith, full, s.reached.some)) ∙ s.reached.begins;
  wires = (map (λ (p : Place). p.edge) places, wires_are n root edges places caps s.reached (count ∙ sym full));
  capacitances = λ i i_n.
      let low : i < length places = omega (arith, full) in
      ap (λ (x : Node). x.c) (node_is edges caps places i low)
      ∙ ap (capacitance_at caps) (sym (node i i_n));
  joined = all_joined n root edges places ranks s all;
  no_loop = count;
}
  where
    full : length places ≡ n
    full = places_all n places ranks s.marks (λ v v_n. all v (omega (arith, s.marks.nodes)))

    node : (i : ℕ) → i < n → get_or (map (λ (p : Place). p.node) places) i 0 ≡ (place_at places i).node
    node i i_n = number_is (λ p. p.node) places i (omega (arith, full))

-- each capacitor finds the place of its node
pub have_places : (n root : ℕ) (caps : List (ℕ × ℕ)) (edges : List (ℕ × ℕ × ℕ)) (places : List Place) (ranks : List ℕ)
    → IsSearch n root edges places ranks
    → ((v : ℕ) → v < length ranks → IsSeen ranks v)
    → ((k : ℕ) → k < length caps → (cap_at caps k).0 < n)
    → HavePlaces caps places ranks
have_places n root caps edges places ranks s all nodes = record {
  within = λ k k_m. omega (arith, nodes k k_m, s.marks.nodes);
  ranked = s.marks.ranked;
  found = λ k k_m. s.marks.found (cap_at caps k).0 (all (cap_at caps k).0 (omega (arith, nodes k k_m, s.marks.nodes)));
}
