-- The search, place by place.
use Rattle.std.proofs.Common.{◌≡◌, ℕ, ◌+◌, ◌<◌, ◌≤◌, ◌⊎◌, List, refl, sym, ap, ◌∙◌, arith, inl, inr, length, get_or, set, subst}
use Rattle.std.proofs.lemmas.Bool.{cases_eq, cases_lt, eq-eqb, ne_eqb}
use Rattle.std.proofs.lemmas.List.{get_or-set_same, get_or_read_under}
use Rattle.rc_tree.specs.Chains.{edge_at, Joins}
use Rattle.rc_tree.specs.Links.{IsEndOf, IsNextAt, AreLinks, next_at}
use Rattle.rc_tree.specs.Search.{place_at, with_place, with_rank, IsWiredTo, IsEarlier, AreSeenBy, IsScan}
use Rattle.rc_tree.specs.declared.links.Next.{Next}
use Rattle.rc_tree.specs.declared.search.Place.{Place}
use Rattle.rc_tree.proofs.PlaceLemmas.{length_more, place_before, at_each, seen_by_stays, seen_by_more, reached_more, seen_more}

-- one more resistor of the place p
pub scan_step : (n root : ℕ) (edges : List (ℕ × ℕ × ℕ)) (places : List Place) (ranks : List ℕ) (p j : ℕ) (x : Place)
    → IsScan n root edges places ranks p j
    → p < length places
    → x.node < n → x.parent ≡ p → x.edge ≡ j
    → j < length edges
    → Joins (edge_at edges j) (place_at places p).node x.node
    → IsScan n root edges (with_place (get_or ranks x.node 0) places x) (with_rank (get_or ranks x.node 0) ranks x.node (length places + 1)) p (j + 1)
scan_step n root edges places ranks p j x s p_n node parent edge j_m joins =
    elim (cases_eq (get_or ranks x.node 0) 0) [
      | inr old ↦ rw (ne_eqb (get_or ranks x.node 0) 0 old) (record {
        reached = s.reached;
        marks = s.marks;
        latest = λ i some i_n. weaker i some i_n;
        before = s.before;
        now = seen_by_more edges ranks x.node (place_at places p).node j (omega arith) joins s.now;
      })
      | inl new ↦ rw (eq-eqb (get_or ranks x.node 0) 0 new) (record {
        reached = reached_more n root edges places x s.reached node
            (λ i i_n same. absurd (omega (arith, s.marks.ranked i i_n, ap (λ (v : ℕ). get_or ranks v 0) same)))
            (omega arith)
            wired
            (λ i some i_n. earlier i some i_n);
        marks = seen_more n places ranks x node new s.marks;
        latest = λ i some i_n.
            at_each places x (λ i q. 0 < i → (q.parent < p) ⊎ ((q.parent ≡ p) × (q.edge < j + 1)))
            (λ i i_n some. weaker i some i_n)
            (λ _. inr (parent, omega arith))
            i i_n some;
        before = λ i i_p.
            subst (λ (q : Place). AreSeenBy edges ranked q.node (length edges)) (sym (place_before places x i (omega arith)))
            (seen_by_stays edges ranks x.node (place_at places i).node (length edges) (length places + 1) room (omega arith) (s.before i i_p));
        now = subst (λ (q : Place). AreSeenBy edges ranked q.node (j + 1)) (sym (place_before places x p p_n))
            (seen_by_more edges ranked x.node (place_at places p).node j (omega (arith, get_or-set_same ranks x.node (length places + 1) 0 room)) joins
            (seen_by_stays edges ranks x.node (place_at places p).node j (length places + 1) room (omega arith) s.now));
      })
    ]
  where
    room : x.node < length ranks
    room = omega (arith, s.marks.nodes)

    ranked : List ℕ
    ranked = set ranks x.node (length places + 1)

    weaker : (i : ℕ) → 0 < i → i < length places → ((place_at places i).parent < p) ⊎ (((place_at places i).parent ≡ p) × ((place_at places i).edge < j + 1))
    weaker i some i_n = elim (s.latest i some i_n) [ inl low ↦ inl low | inr (same, low) ↦ inr (same, omega arith) ]

    earlier : (i : ℕ) → 0 < i → i < length places → IsEarlier (place_at places i) x
    earlier i some i_n = elim (s.latest i some i_n) [ inl low ↦ inl (omega arith) | inr (same, low) ↦ inr (omega arith, omega arith) ]

    wired : IsWiredTo edges places x
    wired = record {
      number = omega arith;
      joins = subst (λ (k : ℕ). Joins (edge_at edges k) (place_at places x.parent).node x.node) (sym edge)
          (subst (λ (q : ℕ). Joins (edge_at edges j) (place_at places q).node x.node) (sym parent) joins);
    }

-- those that are not at its node are passed over
pub scan_skip : (n root : ℕ) (edges : List (ℕ × ℕ × ℕ)) (places : List Place) (ranks : List ℕ) (p j k : ℕ)
    → IsScan n root edges places ranks p j → IsNextAt edges (place_at places p).node j k → IsScan n root edges places ranks p k
scan_skip n root edges places ranks p j k s next = record {
  reached = s.reached;
  marks = s.marks;
  latest = λ i some i_n. elim (s.latest i some i_n) [ inl low ↦ inl low | inr (same, low) ↦ inr (same, omega (arith, next.from)) ];
  before = s.before;
  now = record {
    each = λ i w i_k i_m joins.
        elim (cases_lt i j) [
          | inl low ↦ s.now.each i w low i_m joins
          | inr high ↦ absurd (next.none i high i_k (an_end i w joins))
        ];
  };
}
  where
    an_end : (i w : ℕ) → Joins (edge_at edges i) (place_at places p).node w → IsEndOf (edge_at edges i) (place_at places p).node
    an_end i w (inl (a, b)) = inl a
    an_end i w (inr (a, b)) = inr b

-- after the last resistor the next place follows
pub scan_end : (n root : ℕ) (edges : List (ℕ × ℕ × ℕ)) (places : List Place) (ranks : List ℕ) (p j : ℕ)
    → IsScan n root edges places ranks p j → length edges ≤ j → IsScan n root edges places ranks (p + 1) 0
scan_end n root edges places ranks p j s all = record {
  reached = s.reached;
  marks = s.marks;
  latest = λ i some i_n. elim (s.latest i some i_n) [ inl low ↦ inl (omega arith) | inr (same, low) ↦ inl (omega arith) ];
  before = λ i i_p.
      elim (cases_eq i p) [
        | inl e ↦ subst (λ (q : ℕ). AreSeenBy edges ranks (place_at places q).node (length edges)) (sym e)
            (record { each = λ k w k_l k_m joins. s.now.each k w (omega arith) k_m joins })
        | inr e ↦ s.before i (omega arith)
      ];
  now = record { each = λ k w low _ _. absurd (omega arith) };
}

-- the scan of the place p, whose node this is, before its resistor j
pub record IsScanAt (n root : ℕ) (edges : List (ℕ × ℕ × ℕ)) (places : List Place) (ranks : List ℕ) (p node j : ℕ) : Type 0 where
  pub scan : IsScan n root edges places ranks p j
  pub filled : p < length places
  pub node_is : (place_at places p).node ≡ node
  pub within : j ≤ length edges
  pub here : j < length edges → IsEndOf (edge_at edges j) node

pub scan_begin : (n root : ℕ) (edges : List (ℕ × ℕ × ℕ)) (first : List ℕ) (next : List Next) (places : List Place) (ranks : List ℕ) (p j : ℕ) (x : Place)
    → IsScan n root edges places ranks p 0
    → p < length places
    → x ≡ get_or places p x
    → AreLinks edges first next
    → length first ≡ n
    → j ≡ get_or first x.node j
    → IsScanAt n root edges places ranks p x.node j
scan_begin n root edges first next places ranks p j x s filled read links linked begins =
    let is : x ≡ place_at places p = get_or_read_under places p (length places) x (record { node = 0; parent = 0; edge = 0 }) read filled refl in
    let same : x.node ≡ (place_at places p).node = ap (λ (q : Place). q.node) is in
    let low : x.node < length first = omega (arith, s.reached.within p filled) in
    let starts : j ≡ get_or first x.node 0 = get_or_read_under first x.node (length first) j 0 begins low refl in
    let after : IsNextAt edges x.node 0 j = subst (λ (k : ℕ). IsNextAt edges x.node 0 k) (sym starts) (links.links.firsts x.node low) in
    record {
      scan = scan_skip n root edges places ranks p 0 j s (subst (λ (v : ℕ). IsNextAt edges v 0 j) same after);
      filled = filled;
      node_is = sym same;
      within = after.within;
      here = after.here;
    }

kept : (rank : ℕ) (places : List Place) (x : Place) (p : ℕ) → p < length places
    → (p < length (with_place rank places x)) × ((place_at (with_place rank places x) p).node ≡ (place_at places p).node)
kept rank places x p p_n =
    elim (cases_eq rank 0) [
      | inl new ↦ rw (eq-eqb rank 0 new) (omega (arith, length_more places x), ap (λ (q : Place). q.node) (place_before places x p p_n))
      | inr old ↦ rw (ne_eqb rank 0 old) (p_n, refl)
    ]

pub scan_more : (n root : ℕ) (edges : List (ℕ × ℕ × ℕ)) (places : List Place) (ranks : List ℕ) (p node j next : ℕ) (x : Place)
    → IsScanAt n root edges places ranks p node j
    → x.node < n → x.parent ≡ p → x.edge ≡ j
    → j < length edges
    → Joins (edge_at edges j) node x.node
    → IsNextAt edges node (j + 1) next
    → IsScanAt n root edges (with_place (get_or ranks x.node 0) places x) (with_rank (get_or ranks x.node 0) ranks x.node (length places + 1)) p node next
scan_more n root edges places ranks p node j next x s x_n parent edge j_m joins after =
    let (filled, same) = kept (get_or ranks x.node 0) places x p s.filled in
    record {
      scan = scan_skip n root edges (with_place (get_or ranks x.node 0) places x) (with_rank (get_or ranks x.node 0) ranks x.node (length places + 1)) p (j + 1) next
          (scan_step n root edges places ranks p j x s.scan s.filled x_n parent edge j_m
          (subst (λ (v : ℕ). Joins (edge_at edges j) v x.node) (sym s.node_is) joins))
          (subst (λ (v : ℕ). IsNextAt edges v (j + 1) next) (sym (same ∙ s.node_is)) after);
      filled = filled;
      node_is = same ∙ s.node_is;
      within = after.within;
      here = after.here;
    }

pub scan_done : (n root : ℕ) (edges : List (ℕ × ℕ × ℕ)) (places : List Place) (ranks : List ℕ) (p node j : ℕ)
    → IsScanAt n root edges places ranks p node j → length edges ≤ j → IsScan n root edges places ranks (p + 1) 0
scan_done n root edges places ranks p node j s all = scan_end n root edges places ranks p j s.scan all

-- a turn of the scan, and what it leaves
pub scan_turn : (n root : ℕ) (edges : List (ℕ × ℕ × ℕ)) (places : List Place) (ranks : List ℕ) (p node j next : ℕ) (x : Place) (filled : List Place) (ranked : List ℕ)
    → IsScanAt n root edges places ranks p node j
    → filled ≡ with_place (get_or ranks x.node 0) places x
    → ranked ≡ with_rank (get_or ranks x.node 0) ranks x.node (length places + 1)
    → x.node < n → x.parent ≡ p → x.edge ≡ j
    → j < length edges
    → Joins (edge_at edges j) node x.node
    → IsNextAt edges node (j + 1) next
    → IsScanAt n root edges filled ranked p node next
scan_turn n root edges places ranks p node j next x filled ranked s fills ranks_are x_n parent edge j_m joins after =
    subst (λ (ps : List Place). IsScanAt n root edges ps ranked p node next) (sym fills)
    (subst (λ (ss : List ℕ). IsScanAt n root edges (with_place (get_or ranks x.node 0) places x) ss p node next) (sym ranks_are)
    (scan_more n root edges places ranks p node j next x s x_n parent edge j_m joins after))

pub far_node : (edge : ℕ × ℕ × ℕ) (n v w : ℕ) → edge.0 < n → edge.1 < n → Joins edge v w → w < n
far_node edge n v w a b (inl (c, d)) = omega arith
far_node edge n v w a b (inr (c, d)) = omega arith

pub link_after : (edges : List (ℕ × ℕ × ℕ)) (first : List ℕ) (next : List Next) (node j k : ℕ) (x : Next) → AreLinks edges first next → j < length edges
    → x ≡ get_or next j x
    → (((edge_at edges j).0 ≡ node) × (k ≡ x.at_from)) ⊎ (((edge_at edges j).1 ≡ node) × (k ≡ x.at_to))
    → IsNextAt edges node (j + 1) k
link_after edges first next node j k x links j_m read follows = after follows
  where
    is : x ≡ next_at next j
    is = get_or_read_under next j (length next) x (record { at_from = 0; at_to = 0 }) read (omega (arith, links.one_each)) refl

    after : (((edge_at edges j).0 ≡ node) × (k ≡ x.at_from)) ⊎ (((edge_at edges j).1 ≡ node) × (k ≡ x.at_to)) → IsNextAt edges node (j + 1) k
    after (inl (e, at)) =
        subst (λ (v : ℕ). IsNextAt edges v (j + 1) k) e
        (subst (λ (i : ℕ). IsNextAt edges (edge_at edges j).0 (j + 1) i) (ap (λ (y : Next). y.at_from) (sym is) ∙ sym at) (links.links.after_from j (omega arith) j_m))
    after (inr (e, at)) =
        subst (λ (v : ℕ). IsNextAt edges v (j + 1) k) e
        (subst (λ (i : ℕ). IsNextAt edges (edge_at edges j).1 (j + 1) i) (ap (λ (y : Next). y.at_to) (sym is) ∙ sym at) (links.links.after_to j (omega arith) j_m))
