-- Numbers of digits, or of digits, a point and digits.
use Rattle.std.proofs.Common.{◌≡◌, ℕ, suc, ◌+◌, ◌-◌, ◌*◌, ◌^◌, ◌<◌, ◌≤◌, true, false, List, [], ◌∷◌, ◌++◌, length, take, drop, get_or, arith, refl, sym, ap, ◌∙◌, subst, Option, Some, None, ℤ, pos, negsuc, add-one, drop-cons, length-take, length-drop}
use Rattle.std.specs.Prelude.{IfSome}
use Rattle.std.specs.List.{list_all}
use Rattle.std.proofs.lemmas.List.{append-nil, take_all, take-append-drop}
use Rattle.std.proofs.lemmas.List.Folds.{list_all-append}
use Rattle.std.proofs.Math.Nat.{pow-suc}
use lib.Signed.{lt_z}
use lib.IntN.{nat_abs}
use Rattle.vg_num.specs.Number.{is_digit, value_of, value_after, IsScaled}
use Rattle.vg_num.proofs.CapLemmas.{value_after-append}
use Rattle.vg_num.proofs.AgainLemmas.{split_scaled, no_letters}

pub not_below : (z : ℤ) → lt_z z (pos 0) ≡ false → pos (nat_abs z) ≡ z
not_below (pos n) e = refl
not_below (negsuc n) e = absurd (cc)

pub whole_scaled : (text : List ℕ) (count value p most : ℕ) (r : Option ℕ) → 0 < count → count ≡ length text → value ≡ value_after 0 (take count text) → list_all is_digit (take count text) ≡ true
    → IfSome r (λ n. (value * 10 ^ p ≡ n) × (n ≤ most)) → IfSome r (IsScaled (pos p) most text)
whole_scaled text count value p most None some all is digits h = tt
whole_scaled text count value p most (Some n) some all is digits h =
    let same : take count text ≡ text = take_all count text (omega (arith, all)) in
    let there : list_all is_digit text ≡ true = ap (list_all is_digit) (sym same) ∙ digits in
    let bare : text ++ [] ≡ text = append-nil text in
    let v : value_of (text ++ []) * 10 ^ p ≡ n = ap (λ (t : List ℕ). value_of t * 10 ^ p) (bare ∙ sym same) ∙ ap (λ m. m * 10 ^ p) (sym is) ∙ h.0 in
    subst (λ (t : List ℕ). IsScaled (pos p) most t n) bare (split_scaled text [] [] p p n most refl refl refl (omega (arith, all, some)) there (ap (list_all is_digit) bare ∙ there) (omega arith) v h.1)

pub point_scaled : (text rest : List ℕ) (f b w v p most : ℕ) (r : Option ℕ) → 0 < f → f < length text → get_or text f 0 ≡ 46 → rest ≡ take (length text - (f + 1)) (drop (f + 1) text)
    → w ≡ value_after 0 (take f text) → list_all is_digit (take f text) ≡ true → v ≡ value_after w (take b rest) → list_all is_digit (take b rest) ≡ true → length rest ≤ b → b ≤ length rest → b ≤ p
    → IfSome r (λ n. (v * 10 ^ (p - b) ≡ n) × (n ≤ most)) → IfSome r (IsScaled (pos p) most text)
point_scaled text rest f b w v p most None some within point rest_is w_is front v_is back low high few h = tt
point_scaled text rest f b w v p most (Some n) some within point rest_is w_is front v_is back low high few h =
    let later : take (length text - (f + 1)) (drop (f + 1) text) ≡ drop (f + 1) text = take_all (length text - (f + 1)) (drop (f + 1) text) (omega (arith, length-drop (f + 1) text)) in
    let all : take b rest ≡ rest = take_all b rest low in
    let digits : list_all is_digit rest ≡ true = ap (list_all is_digit) (sym all) ∙ back in
    let split : take f text ++ (46 ∷ rest) ≡ text =
    ap (λ (t : List ℕ). take f text ++ (46 ∷ t)) (rest_is ∙ later)
    ∙ ap (λ k. take f text ++ (k ∷ drop (f + 1) text)) (sym point)
    ∙ ap (λ k. take f text ++ (get_or text f 0 ∷ drop k text)) (let e : f + 1 ≡ suc f = omega arith in e)
    ∙ ap (λ (t : List ℕ). take f text ++ t) (sym (drop-cons text f 0 within))
    ∙ take-append-drop f text in
    let count : length (take f text) ≡ f = omega (arith, length-take f text) in
    let whole : list_all is_digit (take f text ++ rest) ≡ true = list_all-append is_digit (take f text) rest ∙ (rw front (rw digits refl)) in
    let value : value_of (take f text ++ rest) ≡ v = value_after-append (take f text) rest 0 ∙ ap (λ m. value_after m rest) (sym w_is) ∙ ap (value_after w) (sym all) ∙ sym v_is in
    subst (λ (t : List ℕ). IsScaled (pos p) most t n) split
    (split_scaled (take f text) (46 ∷ rest) rest p (p - b) n most refl (no_letters rest digits) refl (omega (arith, count)) front whole (omega arith) (ap (λ m. m * 10 ^ (p - b)) value ∙ h.0) h.1)

pub times_ten : (value turn : ℕ) → value * 10 ^ turn * 10 ≡ value * 10 ^ (turn + 1)
times_ten value turn =
    let p : 10 ^ (turn + 1) ≡ 10 ^ turn * 10 = rw add-one (pow-suc 10 turn) in
    rw p (omega arith)
