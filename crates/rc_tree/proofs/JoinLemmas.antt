-- What the search saw is what is joined to the root.
use Rattle.std.proofs.Common.{◌≡◌, ℕ, suc, zero, ◌<◌, ◌≤◌, Bool, true, false, cond, eqb, List, [], ◌∷◌, ◌++◌, refl, sym, ap, arith, rules, inl, inr, length, get_or, subst}
use Rattle.std.proofs.lemmas.Bool.{cases_eq, ne_eqb}
use Rattle.std.proofs.lemmas.List.Sums.{sum_by-le, sum_by-cons}
use Rattle.rc_tree.specs.Chains.{edge_at, Joins, AreNeighbours, IsChain, AreJoined}
use Rattle.rc_tree.specs.Faults.{NoneFloats, IsLeastFloating}
use Rattle.rc_tree.specs.Search.{place_at, IsSeen, AreReached, AreSeen, IsScan, IsSearch, seen_count}
use Rattle.rc_tree.specs.declared.search.Place.{Place}

chain_more : (edges : List (ℕ × ℕ × ℕ)) (u : ℕ) (path : List ℕ) (v w : ℕ) → IsChain edges u path v → AreNeighbours edges v w → IsChain edges u (path ++ (w ∷ [])) w
chain_more edges u [] v w chain next = (subst (λ (x : ℕ). AreNeighbours edges x w) (sym chain) next, refl)
chain_more edges u (x ∷ path) v w chain next = (chain.0, chain_more edges x path v w chain.1 next)

joined_more : (edges : List (ℕ × ℕ × ℕ)) (u v w : ℕ) → AreJoined edges u v → AreNeighbours edges v w → AreJoined edges u w
joined_more edges u v w (path, chain) next = (path ++ (w ∷ []), chain_more edges u path v w chain next)

-- a place is joined to the root by its parents
joined_below : (n root : ℕ) (edges : List (ℕ × ℕ × ℕ)) (places : List Place) → AreReached n root edges places
    → (k i : ℕ) → i < k → i < length places → AreJoined edges root (place_at places i).node
joined_below n root edges places r zero i i_k i_n = absurd (omega arith)
joined_below n root edges places r (suc k) i i_k i_n =
    elim (cases_eq i 0) [
      | inl e ↦ subst (λ (q : ℕ). AreJoined edges root (place_at places q).node) (sym e) ([], sym r.begins)
      | inr below ↦
          let above : (place_at places i).parent < i = r.above i (omega arith) i_n in
          let wire = r.wired i (omega arith) i_n in
          joined_more edges root (place_at places (place_at places i).parent).node (place_at places i).node
          (joined_below n root edges places r k (place_at places i).parent (omega arith) (omega arith))
          ((place_at places i).edge, wire.number, wire.joins)
    ]

-- what no resistor leaves has each node that is joined to one of it
closed_chain : (edges : List (ℕ × ℕ × ℕ)) (ranks : List ℕ) → ((u w : ℕ) → IsSeen ranks u → AreNeighbours edges u w → IsSeen ranks w)
    → (u : ℕ) (path : List ℕ) (v : ℕ) → IsSeen ranks u → IsChain edges u path v → IsSeen ranks v
closed_chain edges ranks closed u [] v is chain = subst (λ (x : ℕ). IsSeen ranks x) chain is
closed_chain edges ranks closed u (w ∷ path) v is chain = closed_chain edges ranks closed w path v (closed u w is chain.0) chain.1

pub search_end : (n root : ℕ) (edges : List (ℕ × ℕ × ℕ)) (places : List Place) (ranks : List ℕ) (p : ℕ)
    → IsScan n root edges places ranks p 0 → length places ≤ p → IsSearch n root edges places ranks
search_end n root edges places ranks p s all = record {
  reached = s.reached;
  marks = s.marks;
  joined = λ v. (
    (λ is.
        let (i, i_n, at) = s.marks.found v is in
        subst (λ (x : ℕ). AreJoined edges root x) at (joined_below n root edges places s.reached (suc i) i (omega arith) i_n)),
    (λ (path, chain).
        closed_chain edges ranks closed root path v
        (omega (arith, ap (λ (v : ℕ). get_or ranks v 0) s.reached.begins, s.marks.ranked 0 s.reached.some))
        chain),
  );
}
  where
    closed : (u w : ℕ) → IsSeen ranks u → AreNeighbours edges u w → IsSeen ranks w
    closed u w is (j, j_m, joins) =
        let (i, i_n, at) = s.marks.found u is in
        (s.before i (omega arith)).each j w j_m j_m (subst (λ (x : ℕ). Joins (edge_at edges j) x w) (sym at) joins)

-- counts of what was seen
count_few : (ranks : List ℕ) → seen_count ranks ≤ length ranks
count_few ranks = omega (arith, sum_by-le (λ rank. cond (eqb rank 0) 0 1) 1 ranks (λ k d _. one (eqb (get_or ranks k d) 0)))
  where
    one : (none : Bool) → cond {A = ℕ} none 0 1 ≤ 1
    one true = omega arith
    one false = omega arith

count_all : (ranks : List ℕ) → ((v : ℕ) → v < length ranks → IsSeen ranks v) → seen_count ranks ≡ length ranks
count_all [] all = search rules
count_all (rank ∷ ranks) all =
    let more : seen_count ranks ≡ length ranks = count_all ranks (λ v v_n. all (suc v) (omega arith)) in
    let some : 0 < rank = all 0 (omega arith) in
    let one : cond {A = ℕ} (eqb rank 0) 0 1 ≡ 1 = ap (λ (b : Bool). cond {A = ℕ} b 0 1) (ne_eqb rank 0 (λ e. omega arith)) in
    omega (arith, sum_by-cons (λ rank. cond (eqb rank 0) 0 1) rank ranks)

pub places_few : (n : ℕ) (places : List Place) (ranks : List ℕ) → AreSeen n places ranks → length places ≤ n
places_few n places ranks s = omega (arith, count_few ranks, s.count, s.nodes)

pub places_all : (n : ℕ) (places : List Place) (ranks : List ℕ) → AreSeen n places ranks → ((v : ℕ) → v < n → IsSeen ranks v) → length places ≡ n
places_all n places ranks s all =
    let full : seen_count ranks ≡ length ranks = count_all ranks (λ v v_n. all v (omega (arith, s.nodes))) in
    omega (arith, s.count, s.nodes)

-- what the marks say of the net
pub all_joined : (n root : ℕ) (edges : List (ℕ × ℕ × ℕ)) (places : List Place) (ranks : List ℕ) → IsSearch n root edges places ranks
    → ((v : ℕ) → v < length ranks → IsSeen ranks v) → NoneFloats n edges root
all_joined n root edges places ranks s all = λ v v_n. (s.joined v).0 (all v (omega (arith, s.marks.nodes)))

pub least_floating : (n root : ℕ) (edges : List (ℕ × ℕ × ℕ)) (places : List Place) (ranks : List ℕ) (v : ℕ) → IsSearch n root edges places ranks
    → (v < length ranks) × (get_or ranks v 0 ≡ 0) × ((u : ℕ) → u < v → IsSeen ranks u) → IsLeastFloating n edges root v
least_floating n root edges places ranks v s (node, new, before) = record {
  node = omega (arith, s.marks.nodes);
  floats = λ joined. omega (arith, new, (s.joined v).1 joined);
  before = λ u u_v. (s.joined u).0 (before u u_v);
}
