-- Along a hull the values rise and then fall.
use Rattle.std.proofs.Common.{◌≡◌, ℕ, zero, suc, ◌+◌, ◌-◌, ◌<◌, ◌≤◌, ◌≤ℤ◌, ◌<ℤ◌, sym, ap, subst, arith, inl, inr}
use Rattle.std.proofs.lemmas.Int.{ints, by_lt_z}
use Rattle.std.proofs.lemmas.Bool.{cases_lt, cases_order}
use Rattle.elmore.specs.Pairs.{IsBelow}
use Rattle.vg_convex.specs.Hulls.{value, Rise, IsChain, IsHull, IsPeak, IsGreatest}
use Rattle.elmore.specs.declared.pair.Pair.{Pair}
use Rattle.vg_convex.proofs.Lines.{value_falls, value_turns}
use Rattle.vg_convex.proofs.Stacks.{hull_serves}

-- neighbours of a chain
next_below : (x : ℕ → Pair) (n : ℕ) (s : ℕ → ℕ) (top : ℕ) → Rise x n → IsChain x n s top → (j : ℕ) → j + 1 < top → IsBelow (x (s j)) (x (s (j + 1)))
next_below x n s top rise c j j_n = rise (s j) (s (j + 1)) (c.rising j (j + 1) (omega arith) j_n) (c.inside (j + 1) j_n)

-- once the next is worth no more, each later one is worth less than the one before it
pub falls_after : (x : ℕ → Pair) (n : ℕ) (s : ℕ → ℕ) (top r j : ℕ) → Rise x n → IsChain x n s top → j + 1 < top
    → value r (x (s (j + 1))) ≤ℤ value r (x (s j))
    → (k : ℕ) → j + k + 2 < top → value r (x (s (j + k + 2))) <ℤ value r (x (s (j + k + 1)))
falls_after x n s top r j rise c j_n low zero in_0 =
    let two : j + zero + 2 ≡ j + 2 = omega arith in
    let one : j + zero + 1 ≡ j + 1 = omega arith in
    let far : j + 1 + 1 ≡ j + 2 = omega arith in
    rw (ap s two, ap s one)
    (value_falls r (x (s j)) (x (s (j + 1))) (x (s (j + 2))) (next_below x n s top rise c j j_n)
    (subst (λ k. IsBelow (x (s (j + 1))) (x (s k))) far (next_below x n s top rise c (j + 1) (omega arith)))
    (c.bends j (omega arith)) low)
falls_after x n s top r j rise c j_n low (suc k) in_k =
    let here : j + k + 2 < top = omega arith in
    let before : value r (x (s (j + k + 2))) <ℤ value r (x (s (j + k + 1))) = falls_after x n s top r j rise c j_n low k here in
    let one : j + suc k + 1 ≡ j + k + 1 + 1 = omega arith in
    let two : j + suc k + 2 ≡ j + k + 1 + 2 = omega arith in
    let mid : j + k + 2 ≡ j + k + 1 + 1 = omega arith in
    let far : j + k + 1 + 1 + 1 ≡ j + k + 1 + 2 = omega arith in
    rw (ap s two, ap s one)
    (value_falls r (x (s (j + k + 1))) (x (s (j + k + 1 + 1))) (x (s (j + k + 1 + 2))) (next_below x n s top rise c (j + k + 1) (omega arith))
    (subst (λ m. IsBelow (x (s (j + k + 1 + 1))) (x (s m))) far (next_below x n s top rise c (j + k + 1 + 1) (omega arith)))
    (c.bends (j + k + 1) (omega arith))
    (let lower : value r (x (s (j + k + 1 + 1))) <ℤ value r (x (s (j + k + 1))) = subst (λ m. value r (x (s m)) <ℤ value r (x (s (j + k + 1)))) mid before in
    omega (arith, ints, lower)))

-- each later one is worth no more
pub none_after : (x : ℕ → Pair) (n : ℕ) (s : ℕ → ℕ) (top r j : ℕ) → Rise x n → IsChain x n s top → j + 1 < top
    → value r (x (s (j + 1))) ≤ℤ value r (x (s j))
    → (k : ℕ) → j + k + 1 < top → value r (x (s (j + k + 1))) ≤ℤ value r (x (s j))
none_after x n s top r j rise c j_n low zero in_0 = let one : j + zero + 1 ≡ j + 1 = omega arith in rw (ap s one) low
none_after x n s top r j rise c j_n low (suc k) in_k =
    let so_far : value r (x (s (j + k + 1))) ≤ℤ value r (x (s j)) = none_after x n s top r j rise c j_n low k (omega arith) in
    let fall : value r (x (s (j + k + 2))) <ℤ value r (x (s (j + k + 1))) = falls_after x n s top r j rise c j_n low k (omega arith) in
    let one : j + suc k + 1 ≡ j + k + 2 = omega arith in
    rw (ap s one) (omega (arith, ints, so_far, fall))

-- where a later pair is worth more than the one before it, so is each earlier one
pub rises_before : (x : ℕ → Pair) (n : ℕ) (s : ℕ → ℕ) (top r m : ℕ) → Rise x n → IsChain x n s top → m + 1 < top
    → value r (x (s m)) <ℤ value r (x (s (m + 1)))
    → (j : ℕ) → j ≤ m → value r (x (s j)) <ℤ value r (x (s (j + 1)))
rises_before x n s top r m rise c m_n up j j_m = elim (cases_lt j m) [
  | inl less ↦
      by_lt_z (value r (x (s j))) (value r (x (s (j + 1)))) (λ yes. yes) (λ no.
      let k : ℕ = m - j - 1 in
      let two : j + (m - j - 1) + 2 ≡ m + 1 = omega arith in
      let one : j + (m - j - 1) + 1 ≡ m = omega arith in
      let fall : value r (x (s (j + (m - j - 1) + 2))) <ℤ value r (x (s (j + (m - j - 1) + 1))) =
      falls_after x n s top r j rise c (omega arith) no (m - j - 1) (omega arith) in
      let down : value r (x (s (m + 1))) <ℤ value r (x (s m)) = rw (ap s two, ap s one) at fall in
      absurd (omega (arith, ints, up, down)))
  | inr same ↦ let at : j ≡ m = omega arith in subst (λ k. value r (x (s k)) <ℤ value r (x (s (k + 1)))) (sym at) up
]

none_before : (x : ℕ → Pair) (n : ℕ) (s : ℕ → ℕ) (top r m : ℕ) → Rise x n → IsChain x n s top → m + 1 < top
    → value r (x (s m)) <ℤ value r (x (s (m + 1)))
    → (k j : ℕ) → j + k ≡ m → value r (x (s j)) <ℤ value r (x (s (m + 1)))
none_before x n s top r m rise c m_n up zero j e = let at : j ≡ m = omega (arith, e) in subst (λ k. value r (x (s k)) <ℤ value r (x (s (m + 1)))) (sym at) up
none_before x n s top r m rise c m_n up (suc k) j e =
    let later : value r (x (s (j + 1))) <ℤ value r (x (s (m + 1))) = none_before x n s top r m rise c m_n up k (j + 1) (omega (arith, e)) in
    let here : value r (x (s j)) <ℤ value r (x (s (j + 1))) = rises_before x n s top r m rise c m_n up j (omega (arith, e)) in
    omega (arith, ints, later, here)

-- a peak is worth the most of the stack
pub peak_most : (x : ℕ → Pair) (n : ℕ) (s : ℕ → ℕ) (top r p : ℕ) → Rise x n → IsChain x n s top → IsPeak x s top r p
    → (j : ℕ) → j < top → value r (x (s j)) ≤ℤ value r (x (s p))
peak_most x n s top r p rise c peak j j_n = elim (cases_order j p) [
  | inr (inl less) ↦
      let m_p : p - 1 + 1 ≡ p = omega arith in
      let up : value r (x (s (p - 1))) <ℤ value r (x (s (p - 1 + 1))) =
      subst (λ k. value r (x (s (p - 1))) <ℤ value r (x (s k))) (sym m_p) (peak.before (p - 1) m_p) in
      let low : value r (x (s j)) <ℤ value r (x (s (p - 1 + 1))) =
      none_before x n s top r (p - 1) rise c (omega (arith, peak.inside)) up (p - 1 - j) j (omega arith) in
      let low_p : value r (x (s j)) <ℤ value r (x (s p)) = subst (λ k. value r (x (s j)) <ℤ value r (x (s k))) m_p low in
      omega (arith, ints, low_p)
  | inr (inr more) ↦
      let next : p + 1 < top = omega arith in
      let at : p + (j - p - 1) + 1 ≡ j = omega arith in
      rw (ap s at) at (none_after x n s top r p rise c next (peak.after next) (j - p - 1) (omega arith))
  | inl same ↦ subst (λ k. value r (x (s j)) ≤ℤ value r (x (s k))) same (omega (arith, ints))
]

-- and so the most of the row
pub peak_greatest : (x : ℕ → Pair) (n : ℕ) (s : ℕ → ℕ) (top r p : ℕ) → Rise x n → IsHull x n s top → IsPeak x s top r p → IsGreatest x n r (s p)
peak_greatest x n s top r p rise h peak = record {
  inside = h.chain.inside p peak.inside;
  most = λ i i_n.
      let (j, j_n, le) = hull_serves x n s top rise h r i i_n in
      omega (arith, ints, le, peak_most x n s top r p rise h.chain peak j j_n);
}

-- with more resistance no later pair is worth more
pub greatest_turns : (x : ℕ → Pair) (n r r' i : ℕ) → Rise x n → IsGreatest x n r i → r ≤ r' → (j : ℕ) → i < j → j < n → value r' (x j) ≤ℤ value r' (x i)
greatest_turns x n r r' i rise is more j i_j j_n = value_turns r r' (x i) (x j) (rise i j i_j j_n) more (is.most j j_n)
