-- Digits read under a cap, and rounded.
use Rattle.std.proofs.Common.{◌≡◌, ℕ, ◌+◌, ◌-◌, ◌*◌, ◌^◌, ◌<◌, ◌≤◌, Bool, true, false, ◌&&◌, zero, suc, List, [], ◌∷◌, ◌++◌, length, take, drop, min, arith, refl, sym, ap, ◌∙◌, add-one, take-append-drop, inl, inr}
use Rattle.std.proofs.lemmas.Bool.{cases_lt}
use Rattle.std.proofs.lemmas.Bool.Decides.{nat_tests}
use Rattle.std.proofs.Math.Nat.{pow-suc, pow-le-pow_right, mul-le-mul_left, mul-le-mul_right}
use Rattle.std.specs.List.{list_all}
use Rattle.vg_num.specs.Number.{value_after, value_of, is_digit, IsNearest}

-- numbers that agree up to the cap still do after more digits
pub capped_on : (cap : ℕ) (bs : List ℕ) (m n : ℕ) → min m cap ≡ min n cap → min (value_after m bs) cap ≡ min (value_after n bs) cap
capped_on cap [] m n e = e
capped_on cap (b ∷ bs) m n e = capped_on cap bs (m * 10 + (b - 48)) (n * 10 + (b - 48)) (omega arith)

pub value_after-append : (xs ys : List ℕ) (n : ℕ) → value_after n (xs ++ ys) ≡ value_after (value_after n xs) ys
value_after-append [] ys n = refl
value_after-append (x ∷ xs) ys n = value_after-append xs ys (n * 10 + (x - 48))

shift_step : (n d p q v : ℕ) → q ≡ p * 10 → (n * 10 + d) * p + v ≡ n * q + ((0 * 10 + d) * p + v)
shift_step n d p q v e = rw e (omega arith)

-- digits after n put n as many places up
pub value_after-shift : (xs : List ℕ) (n : ℕ) → value_after n xs ≡ n * 10 ^ length xs + value_of xs
value_after-shift [] n = omega arith
value_after-shift (x ∷ xs) n =
    value_after-shift xs (n * 10 + (x - 48))
    ∙ shift_step n (x - 48) (10 ^ length xs) (10 ^ length (x ∷ xs)) (value_of xs) (pow-suc 10 (length xs))
    ∙ ap (λ m. n * 10 ^ length (x ∷ xs) + m) (sym (value_after-shift xs (0 * 10 + (x - 48))))

pub digit-le : (b : ℕ) → is_digit b ≡ true → (48 ≤ b) × (b ≤ 57)
digit-le b e = (grind (arith, nat_tests), grind (arith, nat_tests))

and_parts : (a b : Bool) → (a && b) ≡ true → (a ≡ true) × (b ≡ true)
and_parts true b e = (refl, e)
and_parts false b e = absurd (cc)

place_step : (d p v q : ℕ) → d ≤ 9 → v < p → q ≡ p * 10 → (0 * 10 + d) * p + v < q
place_step d p v q h k e = rw e (omega (arith, mul-le-mul_right p h))

-- as many digits write less than the next power of ten
pub value_of-lt : (xs : List ℕ) → list_all is_digit xs ≡ true → value_of xs < 10 ^ length xs
value_of-lt [] e = omega arith
value_of-lt (x ∷ xs) e =
    let h = and_parts (is_digit x) (list_all is_digit xs) e in
    rw (value_after-shift xs (0 * 10 + (x - 48)))
    (place_step (x - 48) (10 ^ length xs) (value_of xs) (10 ^ length (x ∷ xs)) (omega (arith, digit-le x h.0)) (value_of-lt xs h.1) (pow-suc 10 (length xs)))

-- one power of ten more under a cap
pub grow_step : (cap front i value : ℕ) → value ≡ min (front * 10 ^ i) cap → min (value * 10) cap ≡ min (front * 10 ^ (i + 1)) cap
grow_step cap front i value e = let p : 10 ^ (i + 1) ≡ 10 ^ i * 10 = rw add-one (pow-suc 10 i) in rw p (omega arith)

-- no power past thirty is told apart
pub grow_past : (front power : ℕ) → 30 ≤ power → min (front * 10 ^ 30) 1000000000000000000000000000000 ≡ min (front * 10 ^ power) 1000000000000000000000000000000
grow_past zero power h = omega arith
grow_past (suc front) power h = omega (arith, mul-le-mul_left (suc front) (pow-le-pow_right {n = 10} (omega arith) {i = 30} {j = power} h))

pub near_whole : (x : ℕ) → IsNearest x x 1
near_whole x = (omega arith, omega arith)

pub near_zero : (c d : ℕ) → 2 * c < d → IsNearest 0 c d
near_zero c d h = (omega arith, omega arith)

pub near_up : (v w d : ℕ) → d ≤ 2 * w → w < d → IsNearest (v + 1) (v * d + w) d
near_up v w d h k = (omega arith, omega arith)

pub near_down : (v w d : ℕ) → 2 * w < d → IsNearest v (v * d + w) d
near_down v w d h = (omega arith, omega arith)

-- a cap below a product that grows
pub capped_product : (cap a p : ℕ) → 0 < p → min (min a cap * p) cap ≡ min (a * p) cap
capped_product cap a p h =
    elim (cases_lt a cap) as (λ _. min (min a cap * p) cap ≡ min (a * p) cap) [
      | inl small ↦ (let e : min a cap ≡ a = omega arith in rw e refl)
      | inr large ↦ (let e : min a cap ≡ cap = omega arith in rw e (omega (arith, mul-le-mul_right p large, mul-le-mul_left cap h)))
    ]

all_drop : (k : ℕ) (xs : List ℕ) → list_all is_digit xs ≡ true → list_all is_digit (drop k xs) ≡ true
all_drop zero xs e = e
all_drop (suc k) [] e = e
all_drop (suc k) (x ∷ xs) e = all_drop k xs (and_parts (is_digit x) (list_all is_digit xs) e).1

split_value : (k : ℕ) (ds : List ℕ) → value_of ds ≡ value_of (take k ds) * 10 ^ length (drop k ds) + value_of (drop k ds)
split_value k ds =
    ap value_of (sym (take-append-drop k ds))
    ∙ value_after-append (take k ds) (drop k ds) 0
    ∙ value_after-shift (drop k ds) (value_of (take k ds))

-- the nearest whole number to v and the digits after it
abbrev pub Rounds : ℕ → ℕ → ℕ → ℕ → Type 0
Rounds v b c d = (n : ℕ) × IsNearest n c d × (b < 53 → n ≡ v) × (53 ≤ b → n ≡ v + 1)

rounds_at : (v b e w : ℕ) → 48 ≤ b → b ≤ 57 → w < e → Rounds v b (v * (e * 10) + ((0 * 10 + (b - 48)) * e + w)) (e * 10)
rounds_at v b e w l h k =
    elim (cases_lt b 53) as (λ _. Rounds v b (v * (e * 10) + ((0 * 10 + (b - 48)) * e + w)) (e * 10)) [
      | inl low ↦ (
          let m : (0 * 10 + (b - 48)) * e ≤ 4 * e = mul-le-mul_right e (omega arith) in
          (v, near_down v ((0 * 10 + (b - 48)) * e + w) (e * 10) (omega arith), λ _. refl, λ x. absurd (omega arith)))
      | inr high ↦ (
          let m : 5 * e ≤ (0 * 10 + (b - 48)) * e = mul-le-mul_right e (omega arith) in
          let n : (0 * 10 + (b - 48)) * e ≤ 9 * e = mul-le-mul_right e (omega arith) in
          (v + 1, near_up v ((0 * 10 + (b - 48)) * e + w) (e * 10) (omega arith) (omega arith), λ x. absurd (omega arith), λ _. refl))
    ]

pub rounds : (ds : List ℕ) (k : ℕ) (b : ℕ) (rest : List ℕ) → list_all is_digit ds ≡ true → drop k ds ≡ b ∷ rest
    → Rounds (value_of (take k ds)) b (value_of ds) (10 ^ length (drop k ds))
rounds ds k b rest all e =
    let h = and_parts (is_digit b) (list_all is_digit rest) (ap (list_all is_digit) (sym e) ∙ all_drop k ds all) in
    let q = digit-le b h.0 in
    let p : 10 ^ length (b ∷ rest) ≡ 10 ^ length rest * 10 = pow-suc 10 (length rest) in
    rw (split_value k ds)
    (rw e
    (rw p
    (rw (value_after-shift rest (0 * 10 + (b - 48)))
    (rounds_at (value_of (take k ds)) b (10 ^ length rest) (value_of rest) q.0 q.1 (value_of-lt rest h.1)))))

-- fewer digits than places are less than a half
pub below_half : (ds : List ℕ) (p : ℕ) → list_all is_digit ds ≡ true → length ds < p → 2 * value_of ds < 10 ^ p
below_half ds p all h =
    omega (arith, value_of-lt ds all, pow-suc 10 (length ds), pow-le-pow_right {n = 10} (omega arith) {i = suc (length ds)} {j = p} (omega arith))
