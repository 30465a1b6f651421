-- A pair more on a hull: what no longer bends comes off, and the pair goes on (Graham 1972).
use Rattle.std.proofs.Common.{◌≡◌, ℕ, zero, suc, ◌+◌, ◌-◌, ◌<◌, ◌≤◌, ◌⊎◌, ◌≤ℤ◌, sym, ap, ◌∙◌, subst, arith, inl, inr}
use Rattle.std.proofs.lemmas.Int.{ints}
use Rattle.std.proofs.lemmas.Bool.{cases_lt, cases_order}
use Rattle.vg_convex.specs.Hulls.{value, Bends, Sags, Rise, IsServed, IsChain, IsHull, IsReady, IsHullSoFar, IsReadySoFar}
use Rattle.elmore.specs.declared.pair.Pair.{Pair}
use Rattle.vg_convex.proofs.Lines.{sags_first, sags_later, value_sags}

-- the first pair alone
pub first_hull : (x : ℕ → Pair) (s : ℕ → ℕ) → s 0 ≡ 0 → IsHull x 1 s 1
first_hull x s e = record {
  chain = record {
    some = omega arith;
    first = e;
    inside = λ j j_n. let at : j ≡ 0 = omega arith in omega (arith, e, ap s at);
    rising = λ i j i_j j_n. absurd (omega arith);
    bends = λ j j_n. absurd (omega arith);
  };
  last = omega (arith, e);
  below = λ j i j_n. absurd (omega arith);
}

-- the next number is about to come on
pub hull_ready : (x : ℕ → Pair) (n : ℕ) (s : ℕ → ℕ) (top : ℕ) → IsHull x n s top → IsReady x n s top
hull_ready x n s top h = record {
  chain = h.chain;
  below = h.below;
  rest = λ i low high. absurd (omega (arith, h.last));
}

fewer_chain : (x : ℕ → Pair) (n : ℕ) (s : ℕ → ℕ) (t : ℕ) → IsChain x n s (t + 2) → IsChain x n s (t + 1)
fewer_chain x n s t c = record {
  some = omega arith;
  first = c.first;
  inside = λ j j_t. c.inside j (omega arith);
  rising = λ i j i_j j_t. c.rising i j i_j (omega arith);
  bends = λ j j_t. c.bends j (omega arith);
}

-- the last pair comes off
pub ready_pop : (x : ℕ → Pair) (n : ℕ) (s : ℕ → ℕ) (t : ℕ) → Rise x (n + 1) → IsReady x n s (t + 2)
    → Sags (x (s t)) (x (s (t + 1))) (x n) → IsReady x n s (t + 1)
ready_pop x n s t rise is sags = record {
  chain = fewer_chain x n s t is.chain;
  below = λ j i j_t. is.below j i (omega arith);
  rest = λ i low high.
      let at : t + 1 - 1 ≡ t = omega arith in
      let low_t : s t < i = rw (ap s at) at low in
      rw (ap s at) (between i low_t high);
}
  where
    b_n : s (t + 1) < n
    b_n = is.chain.inside (t + 1) (omega arith)

    a_b : s t < s (t + 1)
    a_b = is.chain.rising t (t + 1) (omega arith) (omega arith)

    tip : t + 2 - 1 ≡ t + 1
    tip = omega arith

    between : (i : ℕ) → s t < i → i < n → Sags (x (s t)) (x i) (x n)
    between i low high = elim (cases_order i (s (t + 1))) [
      | inr (inl less) ↦
          sags_first (x (s t)) (x i) (x (s (t + 1))) (x n) (rise (s t) i low (omega arith)) (rise i (s (t + 1)) less (omega (arith, b_n)))
          (rise (s (t + 1)) n b_n (omega arith)) (is.below t i (omega arith) low less) sags
      | inr (inr more) ↦
          sags_later (x (s t)) (x (s (t + 1))) (x i) (x n) (rise (s t) (s (t + 1)) a_b (omega (arith, b_n))) (rise (s (t + 1)) i more (omega arith))
          (rise i n high (omega arith))
          (rw (ap s tip) at (is.rest i (rw (ap s tip) more) high)) sags
      | inl same ↦ subst (λ k. Sags (x (s t)) (x k) (x n)) (sym same) sags
    ]

-- number n goes on where the last pair bends
pub ready_push : (x : ℕ → Pair) (n : ℕ) (s z : ℕ → ℕ) (top : ℕ) → IsReady x n s top
    → ((t : ℕ) → t + 2 ≡ top → Bends (x (s t)) (x (s (t + 1))) (x n))
    → ((j : ℕ) → j < top → z j ≡ s j) → z top ≡ n → IsHull x (n + 1) z (top + 1)
ready_push x n s z top is bends old new = record {
  chain = record {
    some = omega arith;
    first = old 0 is.chain.some ∙ is.chain.first;
    inside = λ j j_n. inside j j_n;
    rising = λ i j i_j j_n. rising i j i_j j_n;
    bends = λ j j_n. bending j j_n;
  };
  last = let at : top + 1 - 1 ≡ top = omega arith in omega (arith, ap z at, new);
  below = λ j i j_n low high. lying j i j_n low high;
}
  where
    tip : (j : ℕ) → j + 1 ≡ top → top - 1 ≡ j
    tip j e = omega (arith, e)

    inside : (j : ℕ) → j < top + 1 → z j < n + 1
    inside j j_n = elim (cases_lt j top) [
      | inl low ↦ omega (arith, old j low, is.chain.inside j low)
      | inr high ↦ let at : j ≡ top = omega arith in omega (arith, ap z at, new)
    ]

    rising : (i j : ℕ) → i < j → j < top + 1 → z i < z j
    rising i j i_j j_n = elim (cases_lt j top) [
      | inl low ↦ let i_low : i < top = omega arith in omega (arith, old j low, old i i_low, is.chain.rising i j i_j low)
      | inr high ↦
          let at : j ≡ top = omega arith in
          let i_low : i < top = omega arith in
          omega (arith, ap z at, new, old i i_low, is.chain.inside i i_low)
    ]

    bending : (j : ℕ) → j + 2 < top + 1 → Bends (x (z j)) (x (z (j + 1))) (x (z (j + 2)))
    bending j j_n = elim (cases_lt (j + 2) top) [
      | inl low ↦ rw (old j (omega arith), old (j + 1) (omega arith), old (j + 2) low) (is.chain.bends j low)
      | inr high ↦
          let at : j + 2 ≡ top = omega arith in
          rw (old j (omega arith), old (j + 1) (omega arith), ap z at, new) (bends j at)
    ]

    lying : (j i : ℕ) → j + 1 < top + 1 → z j < i → i < z (j + 1) → Sags (x (z j)) (x i) (x (z (j + 1)))
    lying j i j_n low high = elim (cases_lt (j + 1) top) [
      | inl less ↦
          let j_low : j < top = omega arith in
          rw (old j j_low, old (j + 1) less) (is.below j i less (omega (arith, old j j_low)) (omega (arith, old (j + 1) less)))
      | inr more ↦
          let at : j + 1 ≡ top = omega arith in
          let j_low : j < top = omega arith in
          rw (old j j_low, ap z at, new)
          (subst (λ k. Sags (x (s k)) (x i) (x n)) (tip j at)
          (is.rest i (omega (arith, ap s (tip j at), old j j_low)) (omega (arith, ap z at, new))))
    ]

-- a number lies between two neighbours of the stack, or at its end
segment : (s : ℕ → ℕ) (t i : ℕ) → s 0 ≤ i → ((j : ℕ) × (j < t) × (s j ≤ i) × (i < s (j + 1))) ⊎ (s t ≤ i)
segment s zero i low = inr low
segment s (suc t) i low = elim (segment s t i low) [
  | inl (j, j_t, from, to) ↦ inl (j, omega arith, from, to)
  | inr above ↦ elim (cases_lt i (s (t + 1))) [
    | inl less ↦ inl (t, omega arith, above, less)
    | inr more ↦ inr (let at : suc t ≡ t + 1 = omega arith in omega (arith, ap s at))
  ]
]

served_by : (x : ℕ → Pair) (s : ℕ → ℕ) (top r j i : ℕ) → j < top → s j ≡ i → IsServed x s top r (x i)
served_by x s top r j i j_n e = (j, j_n, subst (λ k. value r (x k) ≤ℤ value r (x (s j))) e (omega (arith, ints)))

-- above any resistance each pair is served by one of the hull
pub hull_serves : (x : ℕ → Pair) (n : ℕ) (s : ℕ → ℕ) (top : ℕ) → Rise x n → IsHull x n s top → (r i : ℕ) → i < n → IsServed x s top r (x i)
hull_serves x n s top rise h r i i_n =
    let low : s 0 ≤ i = omega (arith, h.chain.first) in
    elim (segment s (top - 1) i low) [
      | inl (j, j_t, from, to) ↦
          let j_n : j + 1 < top = omega arith in
          let end : s (j + 1) < n = h.chain.inside (j + 1) j_n in
          elim (cases_lt (s j) i) [
            | inl inner ↦ elim (value_sags r (x (s j)) (x i) (x (s (j + 1))) (rise (s j) i inner i_n) (rise i (s (j + 1)) to end) (h.below j i j_n inner to)) [
              | inl left ↦ (j, omega arith, left)
              | inr right ↦ (j + 1, j_n, right)
            ]
            | inr outer ↦ served_by x s top r j i (omega arith) (omega arith)
          ]
      | inr end ↦ served_by x s top r (top - 1) i (omega (arith, h.chain.some)) (omega (arith, h.last))
    ]

-- THE SAME WHERE THE ROW MAY STILL BE EMPTY
pub start_ready : (x : ℕ → Pair) (n : ℕ) (s : ℕ → ℕ) (top : ℕ) → IsHullSoFar x n s top → IsReadySoFar x n s top
start_ready x n s top h = record { none = h.none; some = λ on. hull_ready x n s top (h.some on) }

-- the stack holds no more than the numbers
at_least : (x : ℕ → Pair) (n : ℕ) (s : ℕ → ℕ) (top : ℕ) → IsChain x n s top → (j : ℕ) → j < top → j ≤ s j
at_least x n s top c zero j_n = omega arith
at_least x n s top c (suc j) j_n =
    omega (arith, at_least x n s top c j (omega arith), c.rising j (suc j) (omega arith) j_n)

pub chain_fits : (x : ℕ → Pair) (n : ℕ) (s : ℕ → ℕ) (top : ℕ) → IsChain x n s top → top ≤ n
chain_fits x n s top c = omega (arith, c.some, at_least x n s top c (top - 1) (omega (arith, c.some)), c.inside (top - 1) (omega (arith, c.some)))

pub hull_size : (x : ℕ → Pair) (n : ℕ) (s : ℕ → ℕ) (top : ℕ) → IsHullSoFar x n s top → top ≤ n
hull_size x n s top h = elim (cases_lt 0 n) [
  | inl on ↦ chain_fits x n s top (h.some on).chain
  | inr off ↦ let at : n ≡ 0 = omega arith in omega (arith, h.none at)
]

less_at : (x : ℕ → Pair) (n : ℕ) (s : ℕ → ℕ) (t : ℕ) → Rise x (n + 1) → IsReadySoFar x n s (t + 2) → Sags (x (s t)) (x (s (t + 1))) (x n)
    → IsReadySoFar x n s (t + 1)
less_at x n s t rise ready sags = record {
  none = λ e. absurd (omega (arith, ready.none e));
  some = λ on. ready_pop x n s t rise (ready.some on) sags;
}

pub ready_less : (x : ℕ → Pair) (n : ℕ) (s : ℕ → ℕ) (left : ℕ) → Rise x (n + 1) → 2 ≤ left → IsReadySoFar x n s left
    → Sags (x (s (left - 2))) (x (s (left - 1))) (x n) → IsReadySoFar x n s (left - 1)
ready_less x n s left rise two ready sags =
    let up : left ≡ left - 2 + 2 = omega arith in
    let one : left - 1 ≡ left - 2 + 1 = omega arith in
    subst (λ m. IsReadySoFar x n s m) (sym one)
    (less_at x n s (left - 2) rise (subst (λ m. IsReadySoFar x n s m) up ready) (subst (λ m. Sags (x (s (left - 2))) (x (s m)) (x n)) one sags))

pub ready_on : (x : ℕ → Pair) (n : ℕ) (s z : ℕ → ℕ) (left : ℕ) → IsReadySoFar x n s left
    → (2 ≤ left → Bends (x (s (left - 2))) (x (s (left - 1))) (x n))
    → ((j : ℕ) → j < left → z j ≡ s j) → z left ≡ n → IsHullSoFar x (n + 1) z (left + 1)
ready_on x n s z left ready bends old new = record {
  none = λ e. absurd (omega arith);
  some = λ _. elim (cases_lt 0 n) [
    | inl on ↦ ready_push x n s z left (ready.some on) (λ t e. bent t e) old new
    | inr off ↦
        let n_0 : n ≡ 0 = omega arith in
        let left_0 : left ≡ 0 = ready.none n_0 in
        let one : n + 1 ≡ 1 = omega arith in
        let top_1 : left + 1 ≡ 1 = omega arith in
        let z_0 : z 0 ≡ 0 = ap z (sym left_0) ∙ new ∙ n_0 in
        subst (λ m. IsHull x m z (left + 1)) (sym one) (subst (λ m. IsHull x 1 z m) (sym top_1) (first_hull x z z_0))
  ];
}
  where
    bent : (t : ℕ) → t + 2 ≡ left → Bends (x (s t)) (x (s (t + 1))) (x n)
    bent t e =
        let a : left - 2 ≡ t = omega (arith, e) in
        let b : left - 1 ≡ t + 1 = omega (arith, e) in
        subst (λ m. Bends (x (s t)) (x (s m)) (x n)) b (subst (λ m. Bends (x (s m)) (x (s (left - 1))) (x n)) a (bends (omega (arith, e))))
