-- An exponent whose size is capped gives the same number under the cap.
use Rattle.std.proofs.Common.{◌≡◌, ℕ, zero, suc, ◌+◌, ◌*◌, ◌^◌, ◌<◌, ◌≤◌, Bool, true, false, List, length, min, arith, refl, sym, ap, ◌∙◌, inl, inr, ℤ, pos, negsuc, ◌+ℤ◌, ◌-ℤ◌, ◌≤ℤ◌, neg_ℤ}
use Rattle.std.proofs.lemmas.Bool.{cases_lt}
use Rattle.std.proofs.lemmas.Int.{ints}
use Rattle.std.specs.List.{list_all}
use Rattle.vg_num.specs.Number.{with_sign, IsNearest, numerator, denominator, is_digit, value_of}
use Rattle.vg_num.proofs.CapLemmas.{near_whole, near_zero, grow_past, below_half}

at_least : (z : ℤ) (n : ℕ) → pos n ≤ℤ z → (k : ℕ) × (z ≡ pos k) × (n ≤ k)
at_least (pos k) n h = (k, refl, omega (arith, ints))
at_least (negsuc k) n h = absurd (omega (arith, ints))

at_most : (z : ℤ) (n : ℕ) → z ≤ℤ negsuc n → (k : ℕ) × (z ≡ negsuc k) × (n ≤ k)
at_most (pos k) n h = absurd (omega (arith, ints))
at_most (negsuc k) n h = (k, refl, omega (arith, ints))

-- a number with a large power is as good as any other under the cap
whole_near : (n x : ℕ) → IsNearest n x 1 → n ≡ x
whole_near n x h = omega (arith, h)

zero_near : (n c d : ℕ) → IsNearest n c d → 2 * c < d → n ≡ 0
zero_near zero c d h l = refl
zero_near (suc n) c d h l = absurd (omega (arith, h))

abbrev pub Stands : ℤ → ℕ → ℕ → Type 0
Stands z c r = (n : ℕ) × IsNearest n (numerator z c) (denominator z) × (r ≡ min n 1000000000000000000000000000000)

large : (z y : ℤ) (c r : ℕ) → pos 30 ≤ℤ z → pos 30 ≤ℤ y → Stands z c r → Stands y c r
large z y c r h k s =
    let (i, e, l) = at_least z 30 h in
    let (j, f, m) = at_least y 30 k in
    let (n, near, v) = s in
    let w = whole_near n (c * 10 ^ i) (rw e at near) in
    rw f
    (c * 10 ^ j, near_whole (c * 10 ^ j), v ∙ ap (λ x. min x 1000000000000000000000000000000) w ∙ sym (grow_past c i l) ∙ grow_past c j m)

small : (z y : ℤ) (ds : List ℕ) (r : ℕ) → list_all is_digit ds ≡ true → z ≤ℤ negsuc (length ds) → y ≤ℤ negsuc (length ds) → Stands z (value_of ds) r → Stands y (value_of ds) r
small z y ds r all h k s =
    let (i, e, l) = at_most z (length ds) h in
    let (j, f, m) = at_most y (length ds) k in
    let (n, near, v) = s in
    let w = zero_near n (value_of ds) (10 ^ (i + 1)) (rw e at near) (below_half ds (i + 1) all (omega arith)) in
    rw f
    (0, near_zero (value_of ds) (10 ^ (j + 1)) (below_half ds (j + 1) all (omega arith)), v ∙ ap (λ x. min x 1000000000000000000000000000000) w)

clip_up : (v f : ℕ) (places : ℤ) (c r : ℕ) → negsuc 59 ≤ℤ places → f < 2 ^ 64 → 1000000000000000000000000000000 ≤ v
    → Stands ((pos 1000000000000000000000000000000 -ℤ pos f) +ℤ places) c r → Stands ((pos v -ℤ pos f) +ℤ places) c r
clip_up v f places c r low few g s =
    large ((pos 1000000000000000000000000000000 -ℤ pos f) +ℤ places) ((pos v -ℤ pos f) +ℤ places) c r (omega (arith, ints)) (omega (arith, ints)) s

clip_down : (v f : ℕ) (places : ℤ) (ds : List ℕ) (r : ℕ) → list_all is_digit ds ≡ true → places ≤ℤ pos 60 → length ds < 2 ^ 64 → 1000000000000000000000000000000 ≤ v
    → Stands ((neg_ℤ (pos 1000000000000000000000000000000) -ℤ pos f) +ℤ places) (value_of ds) r → Stands ((neg_ℤ (pos v) -ℤ pos f) +ℤ places) (value_of ds) r
clip_down v f places ds r all high few g s =
    small ((neg_ℤ (pos 1000000000000000000000000000000) -ℤ pos f) +ℤ places) ((neg_ℤ (pos v) -ℤ pos f) +ℤ places) ds r all (omega (arith, ints)) (omega (arith, ints)) s

clip_large : (minus : Bool) (v f : ℕ) (places : ℤ) (ds : List ℕ) (r : ℕ) → list_all is_digit ds ≡ true → negsuc 59 ≤ℤ places → places ≤ℤ pos 60 → f ≤ length ds → length ds < 2 ^ 64 → 1000000000000000000000000000000 ≤ v
    → Stands ((with_sign minus 1000000000000000000000000000000 -ℤ pos f) +ℤ places) (value_of ds) r → Stands ((with_sign minus v -ℤ pos f) +ℤ places) (value_of ds) r
clip_large true v f places ds r all low high part few g s = clip_down v f places ds r all high few g s
clip_large false v f places ds r all low high part few g s = clip_up v f places (value_of ds) r low (omega arith) g s

pub clip : (minus : Bool) (v f : ℕ) (places : ℤ) (ds : List ℕ) (r : ℕ) → list_all is_digit ds ≡ true → negsuc 59 ≤ℤ places → places ≤ℤ pos 60 → f ≤ length ds → length ds < 2 ^ 64
    → Stands ((with_sign minus (min v 1000000000000000000000000000000) -ℤ pos f) +ℤ places) (value_of ds) r → Stands ((with_sign minus v -ℤ pos f) +ℤ places) (value_of ds) r
clip minus v f places ds r all low high part few s =
    elim (cases_lt v 1000000000000000000000000000000) as (λ _. Stands ((with_sign minus v -ℤ pos f) +ℤ places) (value_of ds) r) [
      | inl l ↦ (let e : min v 1000000000000000000000000000000 ≡ v = omega arith in rw e at s)
      | inr g ↦ (
          let e : min v 1000000000000000000000000000000 ≡ 1000000000000000000000000000000 = omega arith in
          clip_large minus v f places ds r all low high part few g (rw e at s))
    ]
