-- Peeling, lead by lead and net by net.
use Rattle.std.proofs.Common.{◌≡◌, ◌≢◌, ℕ, ◌+◌, ◌-◌, ◌<◌, ◌≤◌, ◌⊎◌, ◌==◌, true, false, Bool, List, [], ◌∷◌, ◌++◌, length, get_or, set, add-one, refl, sym, ap, ◌∙◌, subst, arith, inl, inr}
use Rattle.std.proofs.lemmas.Bool.{cases_eq, cases_lt, eq-eqb, ne_eqb, eqb-true}
use Rattle.std.proofs.lemmas.List.{get_or-set_same, get_or-set_other}
use Rattle.std.proofs.Math.ListN.{length-set}
use Rattle.sta_graph.specs.declared.graph.Graph.{Graph}
use Rattle.sta_graph.specs.Paths.{net_count, from_of, to_of, IsGraph}
use Rattle.sta_graph.specs.Orders.{IsAmong, IsReadyBy, IsLeft, IsLeftNet, IsPeeled}
use Rattle.sta_graph.specs.Peeling.{IsNextFrom, AreLinksFrom, is_listed, left_to, one_if, with_ready, IsPeeling, AreFree, AreCounts, IsExpanding}
use Rattle.sta_graph.proofs.CycleLaws.{two_same}
use Rattle.sta_graph.proofs.LeftLaws.{left_step, left_zero, left_few, left_some, before_more, at_more, length_more, more_each, among_more, among_wider, listed, is_among, listed_other, listed_last}

not_true : (b : Bool) → (b ≡ true → ⊥) → b ≡ false
not_true true f = absurd (f refl)
not_true false f = refl

-- ready nets, and one more
ready_length : (b : Bool) (ready : List ℕ) (v : ℕ) → length ready ≤ length (with_ready b ready v)
ready_length true ready v = omega (arith, length_more ready v)
ready_length false ready v = omega arith

ready_before : (b : Bool) (ready : List ℕ) (v q : ℕ) → q < length ready → get_or (with_ready b ready v) q 0 ≡ get_or ready q 0
ready_before true ready v q h = before_more ready v q h
ready_before false ready v q h = refl

ready_each : (b : Bool) (ready : List ℕ) (v : ℕ) (P : ℕ → ℕ → Type 0) → ((q : ℕ) → q < length ready → P q (get_or ready q 0)) → (b ≡ true → P (length ready) v)
    → (q : ℕ) → q < length (with_ready b ready v) → P q (get_or (with_ready b ready v) q 0)
ready_each true ready v P old new q h = more_each ready v P old (new refl) q (omega (arith, length_more ready v))
ready_each false ready v P old new q h = old q h

ready_last : (b : Bool) (ready : List ℕ) (v : ℕ) → b ≡ true → IsAmong (with_ready b ready v) (length (with_ready b ready v)) v
ready_last true ready v e = (length ready, omega (arith, length_more ready v), at_more ready v)
ready_last false ready v e = absurd (cc)

ready_among : (b : Bool) (ready : List ℕ) (v u : ℕ) → IsAmong ready (length ready) u → IsAmong (with_ready b ready v) (length (with_ready b ready v)) u
ready_among b ready v u (q, h, is) = (q, omega (arith, ready_length b ready v), ready_before b ready v q h ∙ is)

-- a lead of the net that is expanded, from the place on, is not yet listed
pub not_listed : (g : Graph) (order ready counts : List ℕ) (p i : ℕ) → p < length ready → from_of g i ≡ get_or ready p 0
    → IsPeeling g order ready counts p i → IsLeft order i
not_listed g order ready counts p i p_r from s (k, k_n, is) =
    elim (s.only k k_n) [
      | inl (q, q_p, q_r, at) ↦ s.apart q p q_p p_r (sym at ∙ ap (from_of g) is ∙ from)
      | inr (_, _, low) ↦ let clash : i < i = subst (λ (j : ℕ). j < i) is low in absurd (omega arith)
    ]

-- so its net's count is not yet 0
pub still_counted : (g : Graph) (order ready counts : List ℕ) (p i : ℕ) → IsGraph g → p < length ready → i < length g.leads → from_of g i ≡ get_or ready p 0
    → IsPeeling g order ready counts p i → 0 < get_or counts (to_of g i) 0
still_counted g order ready counts p i graph p_r i_m from s =
    elim (cases_eq (get_or counts (to_of g i) 0) 0) [
      | inl none ↦
          let on = left_zero (to_of g) (is_listed order) (to_of g i) i (length g.leads) (sym (s.left (to_of g i) (graph.lead_nets i i_m)) ∙ none) i_m refl in
          absurd (not_listed g order ready counts p i p_r from s (is_among order i on))
      | inr some ↦ omega arith
    ]

-- all leads into a net without count are listed
pub count_zero : (g : Graph) (order ready counts : List ℕ) (p low v : ℕ) → IsPeeling g order ready counts p low → v < net_count g → get_or counts v 0 ≡ 0
    → IsReadyBy g order (length order) v
count_zero g order ready counts p low v s v_n none i i_m to =
    is_among order i (left_zero (to_of g) (is_listed order) v i (length g.leads) (sym (s.left v v_n) ∙ none) i_m to)

pub count_some : (g : Graph) (order ready counts : List ℕ) (p low v : ℕ) → IsPeeling g order ready counts p low → v < net_count g → 0 < get_or counts v 0
    → IsLeftNet g order v
count_some g order ready counts p low v s v_n some =
    let (i, i_m, to, off) = left_some (to_of g) (is_listed order) v (length g.leads) (omega (arith, s.left v v_n)) in
    record { lead = i; number = i_m; to = to; left = λ among. let on = listed order i among in absurd (cc) }

pub peel_lead : (g : Graph) (order ready counts : List ℕ) (p i c : ℕ) (b : Bool) → IsGraph g → p < length ready → i < length g.leads → from_of g i ≡ get_or ready p 0
    → get_or counts (to_of g i) 0 ≡ c → (c == 1) ≡ b → IsPeeling g order ready counts p i
    → IsPeeling g (order ++ (i ∷ [])) (with_ready b ready (to_of g i)) (set counts (to_of g i) (c - 1)) p (i + 1)
peel_lead g order ready counts p i c b graph p_r i_m from at_c is_b s = record {
  in_order = record {
    within = λ k h. more_each order i (λ k j. j < length g.leads) s.in_order.within i_m k (omega (arith, length_more order i));
    once = λ h k low k_n.
        more_each order i (λ k j. (h : ℕ) → h < k → get_or (order ++ (i ∷ [])) h 0 ≢ j)
        (λ k k_n h low same. s.in_order.once h k low k_n (sym (before_more order i h (omega arith)) ∙ same))
        (λ h low same. fresh (h, low, sym (before_more order i h low) ∙ same))
        k (omega (arith, length_more order i)) h low;
    ready = λ k k_n.
        more_each order i (λ k j. IsReadyBy g (order ++ (i ∷ [])) k (from_of g j))
        (λ k k_n j j_m to. among_more order i k j (omega arith) (s.in_order.ready k k_n j j_m to))
        (λ j j_m to. among_more order i (length order) j (omega arith) (free_now j j_m (to ∙ from)))
        k (omega (arith, length_more order i));
  };
  nets = ready_each b ready (to_of g i) (λ q v. v < net_count g) s.nets (λ _. graph.lead_nets i i_m);
  apart = λ q r low r_n.
      ready_each b ready (to_of g i) (λ r v. (q : ℕ) → q < r → get_or (with_ready b ready (to_of g i)) q 0 ≢ v)
      (λ r r_n q low same. s.apart q r low r_n (sym (ready_before b ready (to_of g i) q (omega arith)) ∙ same))
      (λ _ q low same. not_ready q low (sym (ready_before b ready (to_of g i) q low) ∙ same))
      r r_n q low;
  free = ready_each b ready (to_of g i) (λ q v. get_or (set counts (to_of g i) (c - 1)) v 0 ≡ 0)
      (λ q q_n. get_or-set_other counts (to_of g i) (get_or ready q 0) (c - 1) 0 (not_ready q q_n) ∙ s.free q q_n)
      (λ one. get_or-set_same counts (to_of g i) (c - 1) 0 room ∙ (let e = eqb-true c 1 (is_b ∙ one) in omega arith));
  all_free = λ v v_n none. elim (cases_eq v (to_of g i)) [
    | inl e ↦
        let now : c - 1 ≡ 0 = sym (get_or-set_same counts (to_of g i) (c - 1) 0 room) ∙ ap (λ (w : ℕ). get_or (set counts (to_of g i) (c - 1)) w 0) (sym e) ∙ none in
        let one : c ≡ 1 = omega (arith, now, some) in
        subst (IsAmong (with_ready b ready (to_of g i)) (length (with_ready b ready (to_of g i)))) (sym e) (ready_last b ready (to_of g i) (sym is_b ∙ eq-eqb c 1 one))
    | inr other ↦ ready_among b ready (to_of g i) v (s.all_free v v_n (sym (get_or-set_other counts (to_of g i) v (c - 1) 0 other) ∙ none))
  ];
  one_each = length-set counts (to_of g i) (c - 1) ∙ s.one_each;
  left = λ v v_n.
      let step = left_step (to_of g) (is_listed order) (is_listed (order ++ (i ∷ []))) v i (length g.leads)
      (not_true (is_listed order i) (λ on. fresh (is_among order i on))) (listed_last order i) (λ k other. listed_other order i k other) i_m in
      elim (cases_eq v (to_of g i)) [
        | inl e ↦
            let hit : one_if (to_of g i == v) ≡ 1 = rw (eq-eqb (to_of g i) v (sym e)) refl in
            let now : get_or (set counts (to_of g i) (c - 1)) v 0 ≡ c - 1 = ap (λ (w : ℕ). get_or (set counts (to_of g i) (c - 1)) w 0) e ∙ get_or-set_same counts (to_of g i) (c - 1) 0 room in
            let was : c ≡ left_to (to_of g) (is_listed order) v (length g.leads) = sym at_c ∙ ap (λ (w : ℕ). get_or counts w 0) (sym e) ∙ s.left v v_n in
            now ∙ omega (arith, step, hit, was)
        | inr other ↦
            let miss : one_if (to_of g i == v) ≡ 0 = rw (ne_eqb (to_of g i) v (λ same. other (sym same))) refl in
            get_or-set_other counts (to_of g i) v (c - 1) 0 other ∙ s.left v v_n ∙ omega (arith, step, miss)
      ];
  before = λ q j q_p q_r j_m at.
      more (s.before q j q_p (omega arith) j_m (at ∙ ready_before b ready (to_of g i) q (omega arith)));
  now = λ j low p_n j_m at. elim (cases_eq j i) [
    | inl e ↦ (length order, omega (arith, length_more order i), at_more order i ∙ sym e)
    | inr other ↦ more (s.now j (omega arith) p_r j_m (at ∙ ready_before b ready (to_of g i) p p_r))
  ];
  only = λ k k_n.
      more_each order i (λ k j.
      ((q : ℕ) × (q < p) × (q < length (with_ready b ready (to_of g i))) × (from_of g j ≡ get_or (with_ready b ready (to_of g i)) q 0))
      ⊎ ((p < length (with_ready b ready (to_of g i))) × (from_of g j ≡ get_or (with_ready b ready (to_of g i)) p 0) × (j < i + 1)))
      (λ k k_n. elim (s.only k k_n) [
        | inl (q, q_p, q_r, at) ↦ inl (q, q_p, omega (arith, wide), at ∙ sym (ready_before b ready (to_of g i) q q_r))
        | inr (p_n, at, low) ↦ inr (omega (arith, wide), at ∙ sym (ready_before b ready (to_of g i) p p_r), omega arith)
      ])
      (inr (omega (arith, wide), from ∙ sym (ready_before b ready (to_of g i) p p_r), omega arith))
      k (omega (arith, length_more order i));
}
  where
    fresh : IsLeft order i
    fresh = not_listed g order ready counts p i p_r from s

    room : to_of g i < length counts
    room = omega (arith, s.one_each, graph.lead_nets i i_m)

    some : 0 < c
    some = omega (arith, still_counted g order ready counts p i graph p_r i_m from s, at_c)

    -- all leads into the net that is expanded are listed
    free_now : (j : ℕ) → j < length g.leads → to_of g j ≡ get_or ready p 0 → IsAmong order (length order) j
    free_now j j_m to = count_zero g order ready counts p i (get_or ready p 0) s (s.nets p p_r) (s.free p p_r) j j_m to

    not_ready : (q : ℕ) → q < length ready → get_or ready q 0 ≢ to_of g i
    not_ready q q_n same =
        let none : get_or counts (to_of g i) 0 ≡ 0 = ap (λ (w : ℕ). get_or counts w 0) (sym same) ∙ s.free q q_n in
        absurd (omega (arith, none, at_c, some))

    more : {j : ℕ} → IsAmong order (length order) j → IsAmong (order ++ (i ∷ [])) (length (order ++ (i ∷ []))) j
    more {j} among = among_wider (order ++ (i ∷ [])) (length order) (length (order ++ (i ∷ []))) j (omega (arith, length_more order i))
        (among_more order i (length order) j (omega arith) among)

    wide : length ready ≤ length (with_ready b ready (to_of g i))
    wide = ready_length b ready (to_of g i)

-- where no lead of the net is left before the number high, high may be the place
pub skip : (g : Graph) (order ready counts : List ℕ) (p low high v : ℕ) → v ≡ get_or ready p 0 → IsNextFrom g v low high → IsPeeling g order ready counts p low → IsPeeling g order ready counts p high
skip g order ready counts p low high v is n s = record {
  in_order = s.in_order;
  nets = s.nets;
  apart = s.apart;
  free = s.free;
  all_free = s.all_free;
  one_each = s.one_each;
  left = s.left;
  before = s.before;
  now = λ i i_h p_n i_m at. elim (cases_lt i low) [
    | inl early ↦ s.now i early p_n i_m at
    | inr late ↦ absurd (n.none i late i_h (at ∙ sym is))
  ];
  only = λ k k_n. elim (s.only k k_n) [
    | inl old ↦ inl old
    | inr (p_n, at, few) ↦ inr (p_n, at, (let far = n.from in omega arith))
  ];
}

-- a net whose leads are all listed is expanded
pub net_done : (g : Graph) (order ready counts : List ℕ) (p low : ℕ) → length g.leads ≤ low → p < length ready → IsPeeling g order ready counts p low → IsPeeling g order ready counts (p + 1) 0
net_done g order ready counts p low all p_r s = record {
  in_order = s.in_order;
  nets = s.nets;
  apart = s.apart;
  free = s.free;
  all_free = s.all_free;
  one_each = s.one_each;
  left = s.left;
  before = λ q i q_p q_r i_m at. elim (cases_eq q p) [
    | inl e ↦ s.now i (omega arith) p_r i_m (at ∙ ap (λ (r : ℕ). get_or ready r 0) e)
    | inr other ↦ s.before q i (omega arith) q_r i_m at
  ];
  now = λ i low p_n i_m at. absurd (omega arith);
  only = λ k k_n. elim (s.only k k_n) [
    | inl (q, q_p, q_r, at) ↦ inl (q, omega arith, q_r, at)
    | inr (p_n, at, few) ↦ inl (p, omega arith, p_n, at)
  ];
}

-- there are no more ready nets than nets
pub ready_few : (g : Graph) (order ready counts : List ℕ) (p low : ℕ) → IsPeeling g order ready counts p low → length ready ≤ net_count g
ready_few g order ready counts p low s =
    elim (cases_lt (net_count g) (length ready)) [
      | inl more ↦
          let (a, b, below, b_m, e) = two_same (net_count g) (λ q. get_or ready q 0) (λ q h. s.nets q (omega arith)) in
          absurd (s.apart a b below (omega arith) e)
      | inr few ↦ few
    ]

-- where no ready net is left to be expanded, peeling stops
pub peel_end : (g : Graph) (order ready counts : List ℕ) (p : ℕ) → IsGraph g → length ready ≤ p → IsPeeling g order ready counts p 0 → IsPeeled g order
peel_end g order ready counts p graph all s = record {
  in_order = s.in_order;
  stops = λ i i_m left. elim (cases_lt 0 (get_or counts (from_of g i) 0)) [
    | inl some ↦ count_some g order ready counts p 0 (from_of g i) s (graph.owners _ (graph.lead_sinks i i_m)) some
    | inr none ↦
        let (q, q_r, at) = s.all_free (from_of g i) (graph.owners _ (graph.lead_sinks i i_m)) (omega arith) in
        absurd (left (s.before q i (omega arith) q_r i_m (sym at)))
  ];
}

pub links_none : (g : Graph) (first next : List ℕ) → length first ≡ net_count g → length next ≡ length g.leads
    → ((v : ℕ) → v < length first → get_or first v 0 ≡ length g.leads) → AreLinksFrom g (length g.leads) first next
links_none g first next nets leads none = record {
  nets = nets;
  leads = leads;
  firsts = λ v v_n.
      let e = none v (omega arith) in
      record {
        from = omega arith;
        within = omega arith;
        here = λ low. absurd (omega arith);
        none = λ k low high. absurd (omega arith);
      };
  nexts = λ i low i_m. absurd (omega arith);
}

pub link_one : (g : Graph) (first next : List ℕ) (i from : ℕ) → IsGraph g → i < length g.leads → from ≡ from_of g i → AreLinksFrom g (i + 1) first next
    → AreLinksFrom g i (set first from i) (set next i (get_or first from 0))
link_one g first next i from graph i_m is a = record {
  nets = length-set first from i ∙ a.nets;
  leads = length-set next i (get_or first from 0) ∙ a.leads;
  firsts = λ v v_n. elim (cases_eq v from) [
    | inl e ↦ subst (IsNextFrom g v i) (sym (ap (λ (w : ℕ). get_or (set first from i) w 0) e ∙ get_or-set_same first from i 0 (omega (arith, a.nets)))) (record {
      from = omega arith;
      within = omega arith;
      here = λ low. sym (e ∙ is);
      none = λ k low high. absurd (omega arith);
    })
    | inr other ↦ subst (IsNextFrom g v i) (sym (get_or-set_other first from v i 0 other)) (wider v other (a.firsts v v_n))
  ];
  nexts = λ j low j_m. elim (cases_eq j i) [
    | inl e ↦
        subst (IsNextFrom g (from_of g j) (j + 1)) (sym (ap (λ (w : ℕ). get_or (set next i (get_or first from 0)) w 0) e ∙ get_or-set_same next i (get_or first from 0) 0 (omega (arith, a.leads))))
        (subst (λ (k : ℕ). IsNextFrom g (from_of g k) (k + 1) (get_or first from 0)) (sym e)
        (subst (λ (w : ℕ). IsNextFrom g w (i + 1) (get_or first from 0)) is (a.firsts from (subst (λ (w : ℕ). w < net_count g) (sym is) (graph.owners _ (graph.lead_sinks i i_m))))))
    | inr other ↦ subst (IsNextFrom g (from_of g j) (j + 1)) (sym (get_or-set_other next i j (get_or first from 0) 0 other)) (a.nexts j (omega arith) j_m)
  ];
}
  where
    wider : (v : ℕ) → v ≢ from → {j : ℕ} → IsNextFrom g v (i + 1) j → IsNextFrom g v i j
    wider v other {j} n = record {
      from = (let far = n.from in omega arith);
      within = n.within;
      here = n.here;
      none = λ k low high. elim (cases_eq k i) [
        | inl e ↦ λ at. other (sym at ∙ ap (from_of g) e ∙ sym is)
        | inr later ↦ n.none k (omega arith) high
      ];
    }

-- with one lead more
pub count_one : (to : ℕ → ℕ) (counts : List ℕ) (m n : ℕ) → length counts ≡ n → to m < n
    → ((v : ℕ) → v < n → get_or counts v 0 ≡ left_to to (is_listed []) v m)
    → (v : ℕ) → v < n → get_or (set counts (to m) (get_or counts (to m) 0 + 1)) v 0 ≡ left_to to (is_listed []) v (m + 1)
count_one to counts m n one_each to_n old v v_n =
    elim (cases_eq v (to m)) [
      | inl e ↦
          let hit : (to m == v) ≡ true = eq-eqb (to m) v (sym e) in
          let now : get_or (set counts (to m) (get_or counts (to m) 0 + 1)) v 0 ≡ get_or counts (to m) 0 + 1 =
          ap (λ (w : ℕ). get_or (set counts (to m) (get_or counts (to m) 0 + 1)) w 0) e ∙ get_or-set_same counts (to m) (get_or counts (to m) 0 + 1) 0 (omega arith) in
          let more : left_to to (is_listed []) v (m + 1) ≡ left_to to (is_listed []) v m + 1 = rw (add-one, hit) refl in
          now ∙ ap (λ (x : ℕ). x + 1) (ap (λ (w : ℕ). get_or counts w 0) (sym e) ∙ old v v_n) ∙ sym more
      | inr other ↦
          let miss : (to m == v) ≡ false = ne_eqb (to m) v (λ same. other (sym same)) in
          let more : left_to to (is_listed []) v (m + 1) ≡ left_to to (is_listed []) v m = rw (add-one, miss) (omega arith) in
          get_or-set_other counts (to m) v (get_or counts (to m) 0 + 1) 0 other ∙ old v v_n ∙ sym more
    ]

pub free_more : (counts : List ℕ) (v : ℕ) (ready : List ℕ) → AreFree counts v ready → get_or counts v 0 ≡ 0 → AreFree counts (v + 1) (ready ++ (v ∷ []))
free_more counts v ready f none = record {
  nets = λ q h. more_each ready v (λ q w. w < v + 1) (λ q h. (let low = f.nets q h in omega arith)) (omega arith) q (omega (arith, length_more ready v));
  apart = λ q r low r_n.
      more_each ready v (λ r w. (q : ℕ) → q < r → get_or (ready ++ (v ∷ [])) q 0 ≢ w)
      (λ r r_n q low same. f.apart q r low r_n (sym (before_more ready v q (omega arith)) ∙ same))
      (λ q low same. absurd (let below = f.nets q low in let e : get_or ready q 0 ≡ v = sym (before_more ready v q low) ∙ same in omega arith))
      r (omega (arith, length_more ready v)) q low;
  free = λ q h. more_each ready v (λ q w. get_or counts w 0 ≡ 0) f.free none q (omega (arith, length_more ready v));
  all_free = λ w low zero_w. elim (cases_eq w v) [
    | inl e ↦ (length ready, omega (arith, length_more ready v), at_more ready v ∙ sym e)
    | inr other ↦
        among_wider (ready ++ (v ∷ [])) (length ready) (length (ready ++ (v ∷ []))) w (omega (arith, length_more ready v))
        (among_more ready v (length ready) w (omega arith) (f.all_free w (omega arith) zero_w))
  ];
}

pub free_same : (counts : List ℕ) (v : ℕ) (ready : List ℕ) → AreFree counts v ready → get_or counts v 0 ≢ 0 → AreFree counts (v + 1) ready
free_same counts v ready f some = record {
  nets = λ q h. (let low = f.nets q h in omega arith);
  apart = f.apart;
  free = f.free;
  all_free = λ w low zero_w. elim (cases_eq w v) [
    | inl e ↦ absurd (some (ap (λ (u : ℕ). get_or counts u 0) (sym e) ∙ zero_w))
    | inr other ↦ f.all_free w (omega arith) zero_w
  ];
}

pub free_none : (counts : List ℕ) → AreFree counts 0 []
free_none counts = record {
  nets = λ q h. absurd (omega arith);
  apart = λ q r low h. absurd (omega arith);
  free = λ q h. absurd (omega arith);
  all_free = λ v h none. absurd (omega arith);
}

pub counts_more : (g : Graph) (counts : List ℕ) (m to count : ℕ) → IsGraph g → m < length g.leads → AreCounts g m counts → to ≡ to_of g m → count ≡ get_or counts to 0
    → AreCounts g (m + 1) (set counts to (count + 1))
counts_more g counts m to count graph m_n a is is_count =
    subst (λ (c : ℕ). AreCounts g (m + 1) (set counts to (c + 1))) (sym is_count)
    (subst (λ (w : ℕ). AreCounts g (m + 1) (set counts w (get_or counts w 0 + 1))) (sym is) (record {
      one_each = length-set counts (to_of g m) (get_or counts (to_of g m) 0 + 1) ∙ a.one_each;
      left = count_one (to_of g) counts m (net_count g) a.one_each (graph.lead_nets m m_n) a.left;
    }))

pub counts_few : (g : Graph) (counts : List ℕ) (m v : ℕ) → AreCounts g m counts → v < net_count g → get_or counts v 0 ≤ m
counts_few g counts m v a v_n = omega (arith, a.left v v_n, left_few (to_of g) (is_listed []) v m)

-- before any net is expanded
pub peel_begin : (g : Graph) (counts ready : List ℕ) → AreCounts g (length g.leads) counts
    → AreFree counts (length counts) ready → IsPeeling g [] ready counts 0 0
peel_begin g counts ready a f = record {
  in_order = record {
    within = λ k h. absurd (omega arith);
    once = λ h k low k_n. absurd (omega arith);
    ready = λ k h. absurd (omega arith);
  };
  nets = λ q h. (let low = f.nets q h in omega (arith, a.one_each));
  apart = f.apart;
  free = f.free;
  all_free = λ v v_n none. f.all_free v (omega (arith, a.one_each)) none;
  one_each = a.one_each;
  left = a.left;
  before = λ q i low. absurd (omega arith);
  now = λ i low. absurd (omega arith);
  only = λ k h. absurd (omega arith);
}

pub expand_begin : (g : Graph) (order ready counts first next : List ℕ) (p net i : ℕ) → AreLinksFrom g 0 first next → p < length ready
    → net ≡ get_or ready p 0 → i ≡ get_or first net 0 → IsPeeling g order ready counts p 0 → IsExpanding g order ready counts p net i
expand_begin g order ready counts first next p net i a p_r net_is i_is s =
    let n = subst (IsNextFrom g net 0) (sym i_is) (a.firsts net (subst (λ (v : ℕ). v < net_count g) (sym net_is) (s.nets p p_r))) in
    record {
      so_far = skip g order ready counts p 0 i net net_is n s;
      place = p_r;
      net_is = net_is;
      within = n.within;
      from = λ low. n.here low ∙ net_is;
    }

pub expand_step : (g : Graph) (order ready counts first next orders readies counted : List ℕ) (p net i j : ℕ) → IsGraph g → AreLinksFrom g 0 first next
    → i < length g.leads → IsExpanding g order ready counts p net i
    → orders ≡ order ++ (i ∷ [])
    → counted ≡ set counts (to_of g i) (get_or counts (to_of g i) 0 - 1)
    → readies ≡ with_ready (get_or counts (to_of g i) 0 == 1) ready (to_of g i)
    → j ≡ get_or next i 0
    → IsExpanding g orders readies counted p net j
expand_step g order ready counts first next orders readies counted p net i j graph a i_m x is_order is_counts is_ready is_j =
    let b = get_or counts (to_of g i) 0 == 1 in
    let n = subst (λ (v : ℕ). IsNextFrom g v (i + 1) j) (x.from i_m) (subst (IsNextFrom g (from_of g i) (i + 1)) (sym is_j) (a.nexts i (omega arith) i_m)) in
    let s = peel_lead g order ready counts p i (get_or counts (to_of g i) 0) b graph x.place i_m (x.from i_m) refl refl x.so_far in
    let same = ready_before b ready (to_of g i) p x.place in
    subst (λ (os : List ℕ). IsExpanding g os readies counted p net j) (sym is_order)
    (subst (λ (cs : List ℕ). IsExpanding g (order ++ (i ∷ [])) readies cs p net j) (sym is_counts)
    (subst (λ (rs : List ℕ). IsExpanding g (order ++ (i ∷ [])) rs (set counts (to_of g i) (get_or counts (to_of g i) 0 - 1)) p net j) (sym is_ready) (record {
      so_far = skip g _ _ _ p (i + 1) j (get_or ready p 0) (sym same) n s;
      place = (let wide = ready_length b ready (to_of g i) in let old = x.place in omega arith);
      net_is = x.net_is ∙ sym same;
      within = n.within;
      from = λ low. n.here low ∙ sym same;
    })))
