-- Places and marks, as one more node is reached.
use Rattle.std.proofs.Common.{◌≡◌, ◌≢◌, ℕ, ◌+◌, ◌<◌, Bool, cond, eqb, List, [], ◌∷◌, ◌++◌, sym, ap, ◌∙◌, arith, inl, inr, length, get_or, set, subst}
use Rattle.std.proofs.lemmas.Bool.{cases_eq, ne_eqb}
use Rattle.std.proofs.lemmas.List.{get_or-set_same, get_or-set_other}
use Rattle.std.proofs.lemmas.List.Sums.{sum_by-set}
use Rattle.std.proofs.Math.ListN.{get_or-append}
use Rattle.std.proofs.lemmas.List.{length-set, length-append}
use Rattle.std.proofs.Math.Seq.{get_or-append_seam}
use Rattle.rc_tree.specs.Chains.{edge_at, Joins}
use Rattle.rc_tree.specs.Search.{place_at, IsSeen, IsWiredTo, IsEarlier, AreReached, AreSeen, AreSeenBy, seen_count}
use Rattle.rc_tree.specs.declared.search.Place.{Place}

-- a list with one more place
pub length_more : (places : List Place) (x : Place) → length (places ++ (x ∷ [])) ≡ length places + 1
length_more places x = omega (arith, length-append places (x ∷ []))

pub place_before : (places : List Place) (x : Place) (i : ℕ) → i < length places → place_at (places ++ (x ∷ [])) i ≡ place_at places i
place_before places x i i_n = get_or-append places (x ∷ []) (record { node = 0; parent = 0; edge = 0 }) i i_n

pub place_last : (places : List Place) (x : Place) → place_at (places ++ (x ∷ [])) (length places) ≡ x
place_last places x = get_or-append_seam places x [] (record { node = 0; parent = 0; edge = 0 })

pub at_each : (places : List Place) (x : Place) (P : ℕ → Place → Type 0) → ((i : ℕ) → i < length places → P i (place_at places i)) → P (length places) x
    → (i : ℕ) → i < length (places ++ (x ∷ [])) → P i (place_at (places ++ (x ∷ [])) i)
at_each places x P each last i i_n =
    elim (cases_eq i (length places)) [
      | inl e ↦ subst (λ (k : ℕ). P k (place_at (places ++ (x ∷ [])) k)) (sym e) (subst (P (length places)) (sym (place_last places x)) last)
      | inr e ↦
          let low : i < length places = omega (arith, length_more places x) in
          subst (P i) (sym (place_before places x i low)) (each i low)
    ]

-- a node that was seen stays so, whichever gets a rank
pub seen_stays : (ranks : List ℕ) (w v rank : ℕ) → w < length ranks → 0 < rank → IsSeen ranks v → IsSeen (set ranks w rank) v
seen_stays ranks w v rank w_n some was =
    elim (cases_eq v w) [
      | inl e ↦ omega (arith, ap (λ (u : ℕ). get_or (set ranks w rank) u 0) e, get_or-set_same ranks w rank 0 w_n)
      | inr e ↦ omega (arith, get_or-set_other ranks w v rank 0 e, was)
    ]

pub seen_by_stays : (edges : List (ℕ × ℕ × ℕ)) (ranks : List ℕ) (w v limit rank : ℕ) → w < length ranks → 0 < rank → AreSeenBy edges ranks v limit → AreSeenBy edges (set ranks w rank) v limit
seen_by_stays edges ranks w v limit rank w_n some before = record { each = λ j u j_l j_m joins. seen_stays ranks w u rank w_n some (before.each j u j_l j_m joins) }

pub other_end : (edge : ℕ × ℕ × ℕ) (v w u : ℕ) → Joins edge v w → Joins edge v u → u ≡ w
other_end edge v w u (inl (a, b)) (inl (c, d)) = sym d ∙ b
other_end edge v w u (inl (a, b)) (inr (c, d)) = sym c ∙ a ∙ sym d ∙ b
other_end edge v w u (inr (a, b)) (inl (c, d)) = sym d ∙ b ∙ sym c ∙ a
other_end edge v w u (inr (a, b)) (inr (c, d)) = sym c ∙ a

-- one more resistor, whose other end was seen
pub seen_by_more : (edges : List (ℕ × ℕ × ℕ)) (ranks : List ℕ) (w v j : ℕ) → IsSeen ranks w → Joins (edge_at edges j) v w
    → AreSeenBy edges ranks v j → AreSeenBy edges ranks v (j + 1)
seen_by_more edges ranks w v j is joins before = record {
  each = λ k u k_l k_m reads.
      elim (cases_eq k j) [
        | inl e ↦
            let same : u ≡ w = other_end (edge_at edges j) v w u joins (subst (λ (i : ℕ). Joins (edge_at edges i) v u) e reads) in
            subst (IsSeen ranks) (sym same) is
        | inr e ↦ before.each k u (omega arith) k_m reads
      ];
}

-- one more place
wired_more : (edges : List (ℕ × ℕ × ℕ)) (places : List Place) (x p : Place) → p.parent < length places → IsWiredTo edges places p → IsWiredTo edges (places ++ (x ∷ [])) p
wired_more edges places x p low wired = record {
  number = wired.number;
  joins = subst (λ (q : Place). Joins (edge_at edges p.edge) q.node p.node) (sym (place_before places x p.parent low)) wired.joins;
}

pub reached_more : (n root : ℕ) (edges : List (ℕ × ℕ × ℕ)) (places : List Place) (x : Place) → AreReached n root edges places
    → x.node < n
    → ((i : ℕ) → i < length places → (place_at places i).node ≢ x.node)
    → x.parent < length places
    → IsWiredTo edges places x
    → ((i : ℕ) → 0 < i → i < length places → IsEarlier (place_at places i) x)
    → AreReached n root edges (places ++ (x ∷ []))
reached_more n root edges places x r node fresh above wired later = record {
  some = omega (arith, length_more places x);
  begins = ap (λ (p : Place). p.node) (place_before places x 0 r.some) ∙ r.begins;
  root_parent = ap (λ (p : Place). p.parent) (place_before places x 0 r.some) ∙ r.root_parent;
  root_edge = ap (λ (p : Place). p.edge) (place_before places x 0 r.some) ∙ r.root_edge;
  within = at_each places x (λ i p. p.node < n) r.within node;
  once = λ i k i_k k_n.
      at_each places x (λ k p. (i : ℕ) → i < k → (place_at (places ++ (x ∷ [])) i).node ≢ p.node)
      (λ k k_n i i_k same. r.once i k i_k k_n (ap (λ (p : Place). p.node) (sym (place_before places x i (omega arith))) ∙ same))
      (λ i i_n same. fresh i i_n (ap (λ (p : Place). p.node) (sym (place_before places x i i_n)) ∙ same))
      k k_n i i_k;
  above = λ i some i_n. at_each places x (λ i p. 0 < i → p.parent < i) (λ i i_n some. r.above i some i_n) (λ _. above) i i_n some;
  wired = λ i some i_n.
      at_each places x (λ i p. 0 < i → IsWiredTo edges (places ++ (x ∷ [])) p)
      (λ i i_n some. wired_more edges places x (place_at places i) (omega (arith, r.above i some i_n)) (r.wired i some i_n))
      (λ _. wired_more edges places x x above wired)
      i i_n some;
  breadth_first = λ i k some i_k k_n.
      at_each places x (λ k p. (i : ℕ) → 0 < i → i < k → IsEarlier (place_at (places ++ (x ∷ [])) i) p)
      (λ k k_n i some i_k. subst (λ (q : Place). IsEarlier q (place_at places k)) (sym (place_before places x i (omega arith))) (r.breadth_first i k some i_k k_n))
      (λ i some i_n. subst (λ (q : Place). IsEarlier q x) (sym (place_before places x i i_n)) (later i some i_n))
      k k_n i some i_k;
}

pub seen_more : (n : ℕ) (places : List Place) (ranks : List ℕ) (x : Place) → x.node < n → get_or ranks x.node 0 ≡ 0 → AreSeen n places ranks
    → AreSeen n (places ++ (x ∷ [])) (set ranks x.node (length places + 1))
seen_more n places ranks x node new s = record {
  nodes = length-set ranks x.node (length places + 1) ∙ s.nodes;
  ranked = at_each places x (λ i p. get_or (set ranks x.node (length places + 1)) p.node 0 ≡ i + 1)
      (λ i i_n.
      get_or-set_other ranks x.node (place_at places i).node (length places + 1) 0
      (λ e. omega (arith, s.ranked i i_n, ap (λ (v : ℕ). get_or ranks v 0) e))
      ∙ s.ranked i i_n)
      (get_or-set_same ranks x.node (length places + 1) 0 room);
  found = λ v is.
      elim (cases_eq v x.node) [
        | inl e ↦ (length places, omega (arith, length_more places x), ap (λ (p : Place). p.node) (place_last places x) ∙ sym e)
        | inr e ↦
            let (i, i_n, at) = s.found v (omega (arith, get_or-set_other ranks x.node v (length places + 1) 0 e, is)) in
            (i, omega (arith, length_more places x), ap (λ (p : Place). p.node) (place_before places x i i_n) ∙ at)
      ];
  count =
      let more : seen_count (set ranks x.node (length places + 1)) + one_if (get_or ranks x.node 0) ≡ seen_count ranks + one_if (length places + 1) =
      sum_by-set one_if ranks x.node (length places + 1) 0 room in
      let none : one_if (get_or ranks x.node 0) ≡ 0 = ap one_if new in
      let some : one_if (length places + 1) ≡ 1 = ap (λ (b : Bool). cond {A = ℕ} b 0 1) (ne_eqb (length places + 1) 0 (λ e. omega arith)) in
      omega (arith, length_more places x, s.count);
}
  where
    room : x.node < length ranks
    room = omega (arith, s.nodes)

    one_if : ℕ → ℕ
    one_if rank = cond (eqb rank 0) 0 1
