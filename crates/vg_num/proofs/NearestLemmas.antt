-- One whole number is nearest to a fraction, and each outcome of a reader is its definition.
use Rattle.std.proofs.Common.{◌≡◌, ℕ, ◌+◌, ◌*◌, ◌^◌, ◌/◌, ◌%◌, ◌<◌, ◌≤◌, arith, refl, sym, inl, inr, ℤ, pos, negsuc, true, false, nat_lt, List, Ok, Err}
use Rattle.std.proofs.lemmas.Bool.{cases_lt}
use Rattle.std.proofs.lemmas.Bool.Decides.{nat_tests}
use Rattle.std.specs.Str.Parse.{starts_with_minus}
use Rattle.std.proofs.Math.Nat.{mul-le-mul_left, one-le-pow}
use Rattle.vg_num.specs.Number.{IsNearest, nearest_to, numerator, denominator, with_sign, scaled, signed_scaled, are_digits, value_of, without_minus, whole_of, power, coefficient, StandsFor, is_number, is_negative}
use Rattle.vg_num.specs.declared.fault.NumFault.TheVariants.{Form, Negative, TooLarge}

quotient_at : (n q d r x : ℕ) → 0 < d → d * q + r ≡ x → r < d → d * n ≤ x → x < d * n + d → n ≡ q
quotient_at n q d r x h e l a b =
    elim (cases_lt n q) [
      | inl lt ↦ absurd (omega (arith, mul-le-mul_left d (let k : n + 1 ≤ q = omega arith in k)))
      | inr ge ↦ elim (cases_lt q n) [
        | inl gt ↦ absurd (omega (arith, mul-le-mul_left d (let k : q + 1 ≤ n = omega arith in k)))
        | inr le ↦ omega arith
      ]
    ]

pub near_is : (n num den : ℕ) → 0 < den → IsNearest n num den → n ≡ nearest_to num den
near_is n num den h near =
    let d : 0 < 2 * den = omega arith in
    let m : (2 * num + den) % (2 * den) < 2 * den = omega arith in
    let e : 2 * den * ((2 * num + den) / (2 * den)) + (2 * num + den) % (2 * den) ≡ 2 * num + den = omega arith in
    quotient_at n ((2 * num + den) / (2 * den)) (2 * den) ((2 * num + den) % (2 * den)) (2 * num + den) d e m (omega (arith, near)) (omega (arith, near))

pub den_pos : (z : ℤ) → 0 < denominator z
den_pos (pos k) = omega arith
den_pos (negsuc k) = one-le-pow (k + 1) 10 (omega arith)

large_test : (m n : ℕ) → m < n → nat_lt m n ≡ true
large_test m n h = grind (arith, nat_tests)

small_test : (m n : ℕ) → n ≤ m → nat_lt m n ≡ false
small_test m n h = grind (arith, nat_tests)

stands_is : (places : ℤ) (text : List ℕ) (n : ℕ) → StandsFor places text n → nearest_to (numerator (power places text) (coefficient text)) (denominator (power places text)) ≡ n
stands_is places text n near = sym (near_is n (numerator (power places text) (coefficient text)) (denominator (power places text)) (den_pos (power places text)) near)

pub exact_form : (places : ℤ) (most : ℕ) (text : List ℕ) → is_number text ≡ false → Err Form ≡ scaled places most text
unfolding scaled
exact_form places most text e = rw e refl

pub exact_negative : (places : ℤ) (most : ℕ) (text : List ℕ) → is_number text ≡ true → is_negative text ≡ true → Err Negative ≡ scaled places most text
unfolding scaled
exact_negative places most text e f = rw e (rw f refl)

pub exact_large : (places : ℤ) (most : ℕ) (text : List ℕ) (n : ℕ) → is_number text ≡ true → is_negative text ≡ false → StandsFor places text n → most < n → Err TooLarge ≡ scaled places most text
unfolding scaled
exact_large places most text n e f near l = rw e (rw f (rw (stands_is places text n near) (rw (large_test most n l) refl)))

pub exact_ok : (places : ℤ) (most : ℕ) (text : List ℕ) (n : ℕ) → is_number text ≡ true → is_negative text ≡ false → StandsFor places text n → n ≤ most → Ok n ≡ scaled places most text
unfolding scaled
exact_ok places most text n e f near l = rw e (rw f (rw (stands_is places text n near) (rw (small_test most n l) refl)))

pub signed_form : (places : ℤ) (most : ℕ) (text : List ℕ) → is_number text ≡ false → Err Form ≡ signed_scaled places most text
unfolding signed_scaled
signed_form places most text e = rw e refl

pub signed_large : (places : ℤ) (most : ℕ) (text : List ℕ) (n : ℕ) → is_number text ≡ true → StandsFor places text n → most < n → Err TooLarge ≡ signed_scaled places most text
unfolding signed_scaled
signed_large places most text n e near l = rw e (rw (stands_is places text n near) (rw (large_test most n l) refl))

pub signed_ok : (places : ℤ) (most : ℕ) (text : List ℕ) (n : ℕ) → is_number text ≡ true → StandsFor places text n → n ≤ most → Ok (with_sign (starts_with_minus text) n) ≡ signed_scaled places most text
unfolding signed_scaled
signed_ok places most text n e near l = rw e (rw (stands_is places text n near) (rw (small_test most n l) refl))

pub whole_form : (text : List ℕ) → are_digits (without_minus text) ≡ false → Err Form ≡ whole_of text
unfolding whole_of
whole_form text e = rw e refl

pub whole_large : (text : List ℕ) → are_digits (without_minus text) ≡ true → 10 ^ 26 < value_of (without_minus text) → Err TooLarge ≡ whole_of text
unfolding whole_of
whole_large text e l = rw e (rw (large_test (10 ^ 26) (value_of (without_minus text)) l) refl)

pub whole_ok : (text : List ℕ) (n : ℕ) → are_digits (without_minus text) ≡ true → n ≡ value_of (without_minus text) → n ≤ 10 ^ 26 → Ok (with_sign (starts_with_minus text) n) ≡ whole_of text
unfolding whole_of
whole_ok text n e f l = rw e (rw (← f) (rw (small_test (10 ^ 26) n l) refl))
