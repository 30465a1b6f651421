-- A number printed with a point is read again.
use Rattle.std.proofs.Common.{◌≡◌, ℕ, zero, suc, ◌+◌, ◌-◌, ◌*◌, ◌/◌, ◌%◌, ◌^◌, ◌<◌, ◌≤◌, ◌==◌, Ok, Bool, true, false, nat_lt, List, [], ◌∷◌, ◌++◌, length, take, drop, arith, refl, sym, ap, ◌∙◌, append_assoc, length-append, add-one, inl, inr, ℤ, pos}
use Rattle.std.specs.Fmt.{decimal}
use Rattle.std.specs.List.{list_all, position_or_len, before_first, after_first}
use Rattle.std.specs.Str.Parse.{starts_with_minus, without_leading_sign}
use Rattle.std.proofs.Math.ListN.{drop_of_length-le}
use Rattle.std.proofs.Math.Nat.{pow-suc}
use Rattle.std.proofs.Math.Seq.{take-length, take-append_seam, drop-append-add}
use Rattle.std.proofs.lemmas.Bool.{and_parts, cases_lt}
use Rattle.std.proofs.lemmas.Bool.Decides.{nat_tests}
use Rattle.std.proofs.lemmas.Int.{ints}
use Rattle.std.proofs.lemmas.List.{append-nil}
use Rattle.std.proofs.lemmas.List.Folds.{list_all-append}
use Rattle.vg_num.specs.Number.{is_digit, is_e, is_point, value_of, are_digits, mantissa, whole, fraction, exponent, has_exponent, is_number, is_negative, coefficient, power, StandsFor, IsScaled, scaled}
use Rattle.vg_num.specs.Printed.{with_point, scaled_text}
use Rattle.vg_num.proofs.CapLemmas.{near_whole}
use Rattle.vg_num.proofs.NearestLemmas.{exact_ok}
use Rattle.vg_num.proofs.PrintingLemmas.{zero_cancels, last_digit}
use Rattle.vg_num.proofs.ReadingLemmas.{decimal_writes, one_more, are_some, no_letter, no_sign, unsigned_text}

-- two runs of digits round a point, which write n without it
record Splits (text : List ℕ) (n places : ℕ) : Type 0 where
  front : List ℕ
  back : List ℕ
  is : text ≡ front ++ (46 ∷ back)
  some : 0 < length front
  all : list_all is_digit (front ++ back) ≡ true
  value : value_of (front ++ back) ≡ n
  long : length back ≡ places

point_splits : (n places : ℕ) → n < 10 ^ 64 → Splits (with_point n places) n places
point_splits n zero h =
    let w = decimal_writes n h in
    record {
      front = decimal n;
      back = [];
      is = refl;
      some = w.some;
      all = rw append-nil w.all;
      value = rw append-nil w.value;
      long = refl;
    }
point_splits n (suc places) h =
    let s = point_splits (n / 10) places (omega arith) in
    let d : List ℕ = (48 + n % 10) ∷ [] in
    let (all, value) = one_more n (s.front ++ s.back) s.all s.value in
    let together = append_assoc s.front s.back d in
    record {
      front = s.front;
      back = s.back ++ d;
      is = ap (λ t. t ++ d) s.is ∙ append_assoc s.front (46 ∷ s.back) d;
      some = s.some;
      all = rw together at all;
      value = rw together at value;
      long = omega (arith, length-append s.back d, s.long);
    }

-- what no digit is stands behind the digits
past_digits : (p : ℕ → Bool) → ((b : ℕ) → is_digit b ≡ true → p b ≡ false) → (ds rest : List ℕ) → list_all is_digit ds ≡ true → position_or_len p (ds ++ rest) ≡ length ds + position_or_len p rest
past_digits p none [] rest e = omega arith
past_digits p none (b ∷ bs) rest e =
    let (d, ds) = and_parts (is_digit b) (list_all is_digit bs) e in
    let f = none b d in
    rw f (omega (arith, past_digits p none bs rest ds))

no_point : (b : ℕ) → is_digit b ≡ true → is_point b ≡ false
no_point b e = no_sign b 46 e (omega arith)

-- a text with neither a sign nor an exponent
record IsPlain (text : List ℕ) : Type 0 where
  sign : starts_with_minus text ≡ false
  bare : without_leading_sign text ≡ text
  long : position_or_len is_e text ≡ length text

plain_mantissa : (text : List ℕ) → IsPlain text → mantissa text ≡ text
unfolding mantissa
plain_mantissa text p = ap without_leading_sign (ap (λ k. take k text) p.long ∙ take-length text) ∙ p.bare

plain_exponent : (text : List ℕ) → IsPlain text → exponent text ≡ []
unfolding exponent
plain_exponent text p = drop_of_length-le text {i = position_or_len is_e text + 1} (omega (arith, p.long))

plain_has : (text : List ℕ) → IsPlain text → has_exponent text ≡ false
plain_has text p = let t : nat_lt (position_or_len is_e text) (length text) ≡ false = (let l = p.long in grind (arith, nat_tests)) in rw t refl

is_number_of : (text ds : List ℕ) → whole text ++ fraction text ≡ ds → has_exponent text ≡ false → are_digits ds ≡ true → is_number text ≡ true
unfolding is_number
is_number_of text ds e h d = let a = ap are_digits e ∙ d in rw a (rw h refl)

not_negative : (text : List ℕ) → starts_with_minus text ≡ false → is_negative text ≡ false
unfolding is_negative
not_negative text e = rw e refl

power_is : (text back : List ℕ) (p k : ℕ) → exponent text ≡ [] → fraction text ≡ back → length back + k ≡ p → power (pos p) text ≡ pos k
unfolding power
power_is text back p k e f h = rw e (rw f (omega (arith, ints)))

coefficient_is : (text ds : List ℕ) → whole text ++ fraction text ≡ ds → coefficient text ≡ value_of ds
unfolding coefficient
coefficient_is text ds e = ap value_of e

stands : (places : ℤ) (text : List ℕ) (k c n : ℕ) → power places text ≡ pos k → coefficient text ≡ c → c * 10 ^ k ≡ n → StandsFor places text n
stands places text k c n e f g = rw e (rw f (rw g (near_whole n)))

plain_reads : (text front back : List ℕ) (p k n most : ℕ) → IsPlain text → whole text ≡ front → fraction text ≡ back
    → 0 < length front → list_all is_digit (front ++ back) ≡ true → length back + k ≡ p
    → value_of (front ++ back) * 10 ^ k ≡ n → n ≤ most → scaled (pos p) most text ≡ Ok n
plain_reads text front back p k n most plain e f some all long value small =
    let ds : whole text ++ fraction text ≡ front ++ back = cc in
    let d = are_some (front ++ back) (omega (arith, length-append front back)) all in
    sym
    (exact_ok (pos p) most text n
    (is_number_of text (front ++ back) ds (plain_has text plain) d)
    (not_negative text plain.sign)
    (stands (pos p) text k (value_of (front ++ back)) n (power_is text back p k (plain_exponent text plain) f long) (coefficient_is text (front ++ back) ds) value)
    small)

plain : (front rest : List ℕ) → 0 < length front → list_all is_digit front ≡ true → position_or_len is_e rest ≡ length rest → IsPlain (front ++ rest)
plain front rest some all long =
    let (sign, bare) = unsigned_text front rest some all in
    record {
      sign = sign;
      bare = bare;
      long = omega (arith, past_digits is_e no_letter front rest all, length-append front rest);
    }

point_at : (front rest : List ℕ) → list_all is_digit front ≡ true → position_or_len is_point rest ≡ 0 → position_or_len is_point (front ++ rest) ≡ length front
point_at front rest all at = omega (arith, past_digits is_point no_point front rest all)

whole_is : (front rest : List ℕ) → IsPlain (front ++ rest) → position_or_len is_point (front ++ rest) ≡ length front → whole (front ++ rest) ≡ front
unfolding whole
whole_is front rest p at =
    ap (before_first is_point) (plain_mantissa (front ++ rest) p)
    ∙ ap (λ k. take k (front ++ rest)) at
    ∙ take-append_seam front rest

fraction_is : (front rest : List ℕ) → IsPlain (front ++ rest) → position_or_len is_point (front ++ rest) ≡ length front → fraction (front ++ rest) ≡ drop 1 rest
unfolding fraction
fraction_is front rest p at =
    ap (after_first is_point) (plain_mantissa (front ++ rest) p)
    ∙ ap (λ k. drop (k + 1) (front ++ rest)) at
    ∙ drop-append-add front rest 1

-- the same as the record of what is read
pub split_scaled : (front rest back : List ℕ) (p k n most : ℕ) → drop 1 rest ≡ back → position_or_len is_e rest ≡ length rest → position_or_len is_point rest ≡ 0
    → 0 < length front → list_all is_digit front ≡ true → list_all is_digit (front ++ back) ≡ true → length back + k ≡ p
    → value_of (front ++ back) * 10 ^ k ≡ n → n ≤ most → IsScaled (pos p) most (front ++ rest) n
split_scaled front rest back p k n most e letters at some digits all long value small =
    let text : List ℕ = front ++ rest in
    let bare = plain front rest some digits letters in
    let point = point_at front rest digits at in
    let f : fraction text ≡ back = fraction_is front rest bare point ∙ e in
    let ds : whole text ++ fraction text ≡ front ++ back = ap (λ w. w ++ fraction text) (whole_is front rest bare point) ∙ ap (λ b. front ++ b) f in
    let d = are_some (front ++ back) (omega (arith, length-append front back)) all in
    record {
      number = is_number_of text (front ++ back) ds (plain_has text bare) d;
      sign = not_negative text bare.sign;
      value = stands (pos p) text k (value_of (front ++ back)) n (power_is text back p k (plain_exponent text bare) f long) (coefficient_is text (front ++ back) ds) value;
      small = small;
    }

-- what no letter stands in
pub no_letters : (ds : List ℕ) → list_all is_digit ds ≡ true → position_or_len is_e (46 ∷ ds) ≡ length (46 ∷ ds)
no_letters ds e =
    let none = past_digits is_e no_letter ds [] e in
    let same = append-nil ds in
    omega (arith, rw same at none)

split_reads : (front rest back : List ℕ) (p k n most : ℕ) → drop 1 rest ≡ back → position_or_len is_e rest ≡ length rest → position_or_len is_point rest ≡ 0
    → 0 < length front → list_all is_digit front ≡ true → list_all is_digit (front ++ back) ≡ true → length back + k ≡ p
    → value_of (front ++ back) * 10 ^ k ≡ n → n ≤ most → scaled (pos p) most (front ++ rest) ≡ Ok n
split_reads front rest back p k n most e letters at some digits all long value small =
    let bare = plain front rest some digits letters in
    let point = point_at front rest digits at in
    plain_reads (front ++ rest) front back p k n most bare (whole_is front rest bare point) (fraction_is front rest bare point ∙ e) some all long value small

decimal_reads : (n k m most : ℕ) → n < 10 ^ 64 → n * 10 ^ k ≡ m → m ≤ most → scaled (pos k) most (decimal n) ≡ Ok m
decimal_reads n k m most h e small =
    let w = decimal_writes n h in
    let same : decimal n ++ [] ≡ decimal n = append-nil (decimal n) in
    ap (scaled (pos k) most) (sym same)
    ∙ split_reads (decimal n) [] [] k k m most refl refl refl w.some w.all (rw same w.all) (omega arith) (rw same (rw w.value e)) small

point_reads : (n places k m most : ℕ) → n < 10 ^ 64 → n * 10 ^ k ≡ m → m ≤ most → scaled (pos (places + k)) most (with_point n places) ≡ Ok m
point_reads n places k m most h e small =
    let s = point_splits n places h in
    let (front, back) = and_parts (list_all is_digit s.front) (list_all is_digit s.back) (sym (list_all-append is_digit s.front s.back) ∙ s.all) in
    let letters : position_or_len is_e (46 ∷ s.back) ≡ length (46 ∷ s.back) =
    (let none = past_digits is_e no_letter s.back [] back in
    let same = append-nil s.back in
    omega (arith, rw same at none)) in
    ap (scaled (pos (places + k)) most) s.is
    ∙ split_reads s.front (46 ∷ s.back) s.back (places + k) k m most refl letters refl s.some front s.all (omega (arith, s.long)) (rw s.value e) small

-- a number printed with a point is read as that number
pub scaled_reads : (places n k m most : ℕ) → n < 10 ^ 64 → n * 10 ^ k ≡ m → m ≤ most → scaled (pos (places + k)) most (scaled_text n places) ≡ Ok m
unfolding scaled_text
scaled_reads zero n k m most h e small =
    let z : zero + k ≡ k = omega arith in
    rw z (decimal_reads n k m most h e small)
scaled_reads (suc places) n k m most h e small =
    let shorter : suc places - 1 ≡ places = omega arith in
    let some : (suc places == 0) ≡ false = grind (arith, nat_tests) in
    elim (cases_lt 0 (n % 10)) as (λ _. scaled (pos (suc places + k)) most (scaled_text n (suc places)) ≡ Ok m) [
      | inl digit ↦ (
          let text = rw some at (last_digit n (suc places) (omega arith) (λ x. omega arith)) in
          ap (scaled (pos (suc places + k)) most) text ∙ point_reads n (suc places) k m most h e small)
      | inr none ↦ (
          let text = rw shorter at (zero_cancels n (suc places) (omega arith) (omega arith)) in
          let up : suc places + k ≡ places + (k + 1) = omega arith in
          let tens : 10 ^ (k + 1) ≡ 10 ^ k * 10 = rw add-one (pow-suc 10 k) in
          let whole_tens : n / 10 * 10 ≡ n = omega arith in
          let same : n / 10 * 10 ^ (k + 1) ≡ m = rw tens (omega (arith, ap (λ x. x * 10 ^ k) whole_tens, e)) in
          ap (scaled (pos (suc places + k)) most) text
          ∙ ap (λ x. scaled (pos x) most (scaled_text (n / 10) places)) up
          ∙ scaled_reads places (n / 10) (k + 1) m most (omega arith) same small)
    ]
