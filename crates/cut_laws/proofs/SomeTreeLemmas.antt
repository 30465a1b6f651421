-- A net whose nodes are all joined to the root has a tree, if it has one resistor fewer than nodes: the search that
-- rc_tree runs, without its code.
use Rattle.std.proofs.Common.{◌≡◌, ◌≢◌, ℕ, zero, suc, ◌+◌, ◌<◌, ◌≤◌, List, [], ◌∷◌, refl, sym, ap, subst, cond, eqb, arith, inl, inr, length, get_or, replicate, slice_index}
use Rattle.std.proofs.lemmas.Bool.{cases_eq, cases_lt, eq-eqb, ne_eqb}
use Rattle.std.proofs.lemmas.List.{length-replicate}
use Rattle.std.proofs.lemmas.List.Sums.{sum_by-cons}
use Rattle.elmore.specs.declared.tree.Node.{Node}
use Rattle.rc_tree.specs.Chains.{edge_at, Joins}
use Rattle.rc_tree.specs.Faults.{NoneFloats}
use Rattle.rc_tree.specs.Answers.{IsTreeOf}
use Rattle.rc_tree.specs.Links.{IsEndOf}
use Rattle.rc_tree.specs.Search.{place_at, IsSeen, seen_count, with_place, with_rank, IsScan, IsSearch}
use Rattle.rc_tree.proofs.PlaceLemmas.{length_more}
use Rattle.rc_tree.proofs.SearchLemmas.{scan_step, scan_end}
use Rattle.rc_tree.proofs.JoinLemmas.{search_end, places_few}
use Rattle.rc_tree.proofs.TreeLemmas.{tree_done}

-- the type of rc_tree's places, which it does not export: it is that of any place
abbrev type_of : {X : Type 0} → X → Type 0
type_of {X} x = X

abbrev Place : Type 0
Place = type_of (place_at [] 0)

-- 1 for a rank
abbrev one_if : ℕ → ℕ
one_if rank = cond (eqb rank 0) 0 1

-- the ranks when only the node v was reached
first_rank : ℕ → ℕ → List ℕ
first_rank zero v = []
first_rank (suc n) zero = 1 ∷ replicate n 0
first_rank (suc n) (suc v) = 0 ∷ first_rank n v

none_ranked : (n v : ℕ) → slice_index (replicate n 0) v ≡ 0
none_ranked zero v = refl
none_ranked (suc n) zero = refl
none_ranked (suc n) (suc v) = none_ranked n v

none_counted : (n : ℕ) → seen_count (replicate n 0) ≡ 0
none_counted zero = refl
none_counted (suc n) = omega (arith, sum_by-cons one_if 0 (replicate n 0), none_counted n)

rank_each : (n v : ℕ) → length (first_rank n v) ≡ n
unfolding first_rank
rank_each zero v = refl
rank_each (suc n) zero = ap suc (length-replicate n 0)
rank_each (suc n) (suc v) = ap suc (rank_each n v)

rank_here : (n v : ℕ) → v < n → get_or (first_rank n v) v 0 ≡ 1
unfolding first_rank
rank_here zero v v_n = absurd (omega arith)
rank_here (suc n) zero v_n = refl
rank_here (suc n) (suc v) v_n = rank_here n v (omega arith)

rank_only : (n v w : ℕ) → IsSeen (first_rank n v) w → v ≡ w
unfolding first_rank
rank_only zero v w is = absurd (omega arith)
rank_only (suc n) zero zero is = refl
rank_only (suc n) zero (suc w) is = absurd (omega (arith, is, none_ranked n w))
rank_only (suc n) (suc v) zero is = absurd (omega (arith, is))
rank_only (suc n) (suc v) (suc w) is = ap suc (rank_only n v w is)

rank_count : (n v : ℕ) → v < n → seen_count (first_rank n v) ≡ 1
unfolding first_rank
rank_count zero v v_n = absurd (omega arith)
rank_count (suc n) zero v_n = omega (arith, sum_by-cons one_if 1 (replicate n 0), none_counted n)
rank_count (suc n) (suc v) v_n = omega (arith, sum_by-cons one_if 0 (first_rank n v), rank_count n v (omega arith))

first_place : ℕ → List (ℕ × ℕ × ℕ) → List Place
first_place root edges = record { node = root; parent = 0; edge = length edges } ∷ []

-- the search begins
begun : (n root : ℕ) (edges : List (ℕ × ℕ × ℕ)) → root < n → IsScan n root edges (first_place root edges) (first_rank n root) 0 0
unfolding first_place
begun n root edges root_n = record {
  reached = record {
    some = omega arith;
    begins = refl;
    root_parent = refl;
    root_edge = refl;
    within = λ i i_n. let z : i ≡ 0 = omega arith in subst (λ k. (place_at (first_place root edges) k).node < n) (sym z) root_n;
    once = λ i k i_k k_n same. absurd (omega arith);
    above = λ i i_0 i_n. absurd (omega arith);
    wired = λ i i_0 i_n. absurd (omega arith);
    breadth_first = λ i k i_0 i_k k_n. absurd (omega arith);
  };
  marks = record {
    nodes = rank_each n root;
    ranked = λ i i_n.
        let z : i ≡ 0 = omega arith in
        subst (λ k. get_or (first_rank n root) (place_at (first_place root edges) k).node 0 ≡ k + 1) (sym z) (rank_here n root root_n);
    found = λ v is. (0, omega arith, rank_only n root v is);
    count = rank_count n root root_n;
  };
  latest = λ i i_0 i_n. absurd (omega arith);
  before = λ i i_p. absurd (omega arith);
  now = record { each = λ j w j_0 j_n joins. absurd (omega arith) };
}

-- it passes over a resistor that is not at the place's node
scan_pass : (n root : ℕ) (edges : List (ℕ × ℕ × ℕ)) (places : List Place) (ranks : List ℕ) (p j : ℕ)
    → IsScan n root edges places ranks p j → (IsEndOf (edge_at edges j) (place_at places p).node → ⊥) → IsScan n root edges places ranks p (j + 1)
scan_pass n root edges places ranks p j s none = record {
  reached = s.reached;
  marks = s.marks;
  latest = λ i some i_n. elim (s.latest i some i_n) [ inl low ↦ inl low | inr (same, low) ↦ inr (same, omega arith) ];
  before = s.before;
  now = record {
    each = λ i w i_k i_m joins.
        elim (cases_eq i j) [
          | inl here ↦ absurd (none (subst (λ k. IsEndOf (edge_at edges k) (place_at places p).node) here (an_end i w joins)))
          | inr other ↦ s.now.each i w (omega arith) i_m joins
        ];
  };
}
  where
    an_end : (i w : ℕ) → Joins (edge_at edges i) (place_at places p).node w → IsEndOf (edge_at edges i) (place_at places p).node
    an_end i w (inl (a, b)) = inl a
    an_end i w (inr (a, b)) = inr b

-- the place p is scanned up to the resistor j
record Scanned (n root : ℕ) (edges : List (ℕ × ℕ × ℕ)) (p j : ℕ) (places : List Place) (ranks : List ℕ) : Type 0 where
  pub scan : IsScan n root edges places ranks p j
  pub filled : p < length places

more_places : (rank : ℕ) (places : List Place) (x : Place) → length places ≤ length (with_place rank places x)
more_places rank places x =
    elim (cases_eq rank 0) [
      | inl new ↦ rw (eq-eqb rank 0 new) (omega (arith, length_more places x))
      | inr old ↦ rw (ne_eqb rank 0 old) (omega arith)
    ]

-- a resistor at the place's node reaches the node at its other end
scan_here : (n root : ℕ) (edges : List (ℕ × ℕ × ℕ)) (p j node : ℕ) (places : List Place) (ranks : List ℕ) → j < length edges → node < n
    → Joins (edge_at edges j) (place_at places p).node node → Scanned n root edges p j places ranks
    → (more : List Place) × (ranked : List ℕ) × Scanned n root edges p (j + 1) more ranked
scan_here n root edges p j node places ranks j_m node_n joins s = (
  with_place (get_or ranks node 0) places (record { node = node; parent = p; edge = j }),
  with_rank (get_or ranks node 0) ranks node (length places + 1),
  record {
    scan = scan_step n root edges places ranks p j (record { node = node; parent = p; edge = j }) s.scan s.filled node_n refl refl j_m joins;
    filled = omega (arith, s.filled, more_places (get_or ranks node 0) places (record { node = node; parent = p; edge = j }));
  },
)

IsWithin : ℕ → List (ℕ × ℕ × ℕ) → Type 0
IsWithin n edges = (j : ℕ) → j < length edges → ((edge_at edges j).0 < n) × ((edge_at edges j).1 < n)

-- one resistor, all resistors of a place, all places
scan_one : (n root : ℕ) (edges : List (ℕ × ℕ × ℕ)) → IsWithin n edges → (p j : ℕ) (places : List Place) (ranks : List ℕ) → j < length edges
    → Scanned n root edges p j places ranks → (more : List Place) × (ranked : List ℕ) × Scanned n root edges p (j + 1) more ranked
unfolding IsWithin
scan_one n root edges within p j places ranks j_m s =
    elim (cases_eq (edge_at edges j).0 (place_at places p).node) [
      | inl from ↦ scan_here n root edges p j (edge_at edges j).1 places ranks j_m (within j j_m).1 (inl (from, refl)) s
      | inr not_from ↦ elim (cases_eq (edge_at edges j).1 (place_at places p).node) [
        | inl to ↦ scan_here n root edges p j (edge_at edges j).0 places ranks j_m (within j j_m).0 (inr (refl, to)) s
        | inr not_to ↦ (
          places,
          ranks,
          record {
            scan = scan_pass n root edges places ranks p j s.scan (λ at. neither not_from not_to at);
            filled = s.filled;
          },
        )
      ]
    ]
  where
    neither : (edge_at edges j).0 ≢ (place_at places p).node → (edge_at edges j).1 ≢ (place_at places p).node
        → IsEndOf (edge_at edges j) (place_at places p).node → ⊥
    neither a b (inl e) = a e
    neither a b (inr e) = b e

scan_row : (n root : ℕ) (edges : List (ℕ × ℕ × ℕ)) → IsWithin n edges → (d p j : ℕ) (places : List Place) (ranks : List ℕ) → j + d ≡ length edges
    → Scanned n root edges p j places ranks → (more : List Place) × (ranked : List ℕ) × Scanned n root edges p (length edges) more ranked
scan_row n root edges within zero p j places ranks e s =
    let j_m : j ≡ length edges = omega arith in (places, ranks, subst (λ k. Scanned n root edges p k places ranks) j_m s)
scan_row n root edges within (suc d) p j places ranks e s =
    let (more, ranked, t) = scan_one n root edges within p j places ranks (omega arith) s in
    scan_row n root edges within d p (j + 1) more ranked (omega arith) t

scan_all : (n root : ℕ) (edges : List (ℕ × ℕ × ℕ)) → IsWithin n edges → (d p : ℕ) (places : List Place) (ranks : List ℕ) → n ≤ p + d
    → IsScan n root edges places ranks p 0 → (more : List Place) × (ranked : List ℕ) × IsSearch n root edges more ranked
scan_all n root edges within zero p places ranks e s =
    (places, ranks, search_end n root edges places ranks p s (omega (arith, places_few n places ranks s.marks)))
scan_all n root edges within (suc d) p places ranks e s =
    elim (cases_lt p (length places)) [
      | inr done ↦ (places, ranks, search_end n root edges places ranks p s done)
      | inl filled ↦
          let (more, ranked, row) = scan_row n root edges within (length edges) p 0 places ranks (omega arith) (record { scan = s; filled = filled }) in
          scan_all n root edges within d (p + 1) more ranked (omega arith) (scan_end n root edges more ranked p (length edges) row.scan (omega arith))
    ]

pub some_tree : (n root : ℕ) (caps : List (ℕ × ℕ)) (edges : List (ℕ × ℕ × ℕ)) → root < n
    → ((j : ℕ) → j < length edges → ((edge_at edges j).0 < n) × ((edge_at edges j).1 < n))
    → NoneFloats n edges root → length edges + 1 ≡ n
    → (tree : List Node) × (order : List ℕ) × IsTreeOf n root caps edges tree order
unfolding IsWithin
some_tree n root caps edges root_n within joined count =
    let (places, ranks, s) = scan_all n root edges within n 0 (first_place root edges) (first_rank n root) (omega arith) (begun n root edges root_n) in (
      _,
      _,
      tree_done n root caps edges places ranks s
          (λ v v_n. (s.joined v).1 (joined v (omega (arith, s.marks.nodes))))
          count,
    )
