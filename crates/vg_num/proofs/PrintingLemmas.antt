-- The text of a whole number divided by a power of ten, digit by digit from its end.
use Rattle.std.proofs.Common.{◌≡◌, ℕ, zero, suc, ◌+◌, ◌-◌, ◌/◌, ◌%◌, ◌==◌, ◌<◌, ◌≤◌, ◌≢◌, false, if◌then◌else◌, List, [], ◌∷◌, ◌++◌, length, drop, set, arith, refl, append_assoc}
use Rattle.std.specs.Fmt.{decimal}
use Rattle.std.proofs.lemmas.Bool.Decides.{nat_tests}
use Rattle.std.proofs.lemmas.List.{drop-set, append-nil}
use Rattle.std.proofs.Math.ListN.{drop_of_length-le}
use Rattle.vg_num.specs.Printed.{with_point, scaled_text}

pub zero_cancels : (n k : ℕ) → 0 < k → n % 10 ≡ 0 → scaled_text n k ≡ scaled_text (n / 10) (k - 1)
unfolding scaled_text
zero_cancels n zero h e = absurd (omega arith)
zero_cancels n (suc k) h e = let p : suc k - 1 ≡ k = omega arith in rw p (rw e refl)

pub no_fraction : (n k : ℕ) → k ≡ 0 → scaled_text n k ≡ (if k == 0 then decimal n else with_point n k)
unfolding scaled_text
no_fraction n k e = rw e refl

pub last_digit : (n k : ℕ) → 0 < k → n % 10 ≢ 0 → scaled_text n k ≡ (if k == 0 then decimal n else with_point n k)
unfolding scaled_text
last_digit n zero h e = absurd (omega arith)
last_digit n (suc k) h e =
    let f : (n % 10 == 0) ≡ false = grind (arith, nat_tests) in
    let g : (suc k == 0) ≡ false = grind (arith, nat_tests) in
    rw f (rw g refl)

-- the last digit of n is written before what stands behind it
pub point_step : (n k i : ℕ) (xs : List ℕ) → i < k → k ≤ 9 → length xs ≡ 32
    → with_point n (k - i) ++ drop (32 - i) xs ≡ with_point (n / 10) (k - (i + 1)) ++ drop (32 - (i + 1)) (set xs (31 - i) (48 + n % 10))
point_step n k i xs h few len =
    let p : k - i ≡ suc (k - (i + 1)) = omega arith in
    let q : 32 - i ≡ 31 - i + 1 = omega arith in
    let r : 32 - (i + 1) ≡ 31 - i = omega arith in
    let at : 31 - i < length xs = omega arith in
    rw p
    (rw q
    (rw r
    (rw (drop-set xs (31 - i) (48 + n % 10) at)
    (append_assoc (with_point (n / 10) (k - (i + 1))) ((48 + n % 10) ∷ []) (drop (31 - i + 1) xs)))))

-- nothing stands behind the end
pub nothing_behind : (xs ys : List ℕ) → length ys ≡ 32 → xs ++ drop 32 ys ≡ xs
nothing_behind xs ys e = let d : drop 32 ys ≡ [] = drop_of_length-le ys {i = 32} (omega arith) in rw d (append-nil xs)
