-- Leaves that are the decimal texts of numbers.
use Rattle.std.proofs.Common.{◌≡◌, ◌≢◌, ℕ, zero, suc, ◌+◌, ◌-◌, ◌*◌, ◌<◌, ◌≤◌, ◌&&◌, Bool, true, false, List, [], ◌∷◌, ◌++◌, length, get_or, take, drop, refl, sym, ap, ◌∙◌, arith, rules}
use Rattle.std.specs.Fmt.{decimal}
use Rattle.std.specs.List.{list_all}
use Rattle.std.proofs.lemmas.Bool.{false≢true}
use Rattle.std.proofs.lemmas.Bool.Decides.{nat_tests}
use Rattle.std.proofs.lemmas.Fmt.{decimal_nonempty, first_decimal, decimal-digits_value}
use Rattle.std.proofs.lemmas.List.{take_more, take-append-drop, take_all}
use Rattle.std.proofs.lemmas.List.Folds.{list_all-append}
use Rattle.std.proofs.lemmas.Str.Parse.{IsNumeralModel, numerals_by_fold}
use Rattle.vg_num.specs.Number.{is_digit, value_after, value_of}
use Rattle.vg_num.proofs.CapLemmas.{value_after-append}
use Rattle.vg_num.proofs.ReadingLemmas.{decimal_writes}

own : IsNumeralModel (λ ds. list_all is_digit ds ≡ true) value_of
own = numerals_by_fold _ (search rules) value_after (search rules)

-- the first digits of a text, and the number that they write
pub record AreDigits (text : List ℕ) (at number : ℕ) : Type 0 where
  pub digits : list_all is_digit (take at text) ≡ true
  pub value : number ≡ value_of (take at text)

pub digit_is : (b : ℕ) → 48 ≤ b → b ≤ 57 → is_digit b ≡ true
digit_is b low high = grind (arith, nat_tests)

no_digit : (b : ℕ) → (b < 48 → is_digit b ≡ false) × (57 < b → is_digit b ≡ false)
no_digit b = (λ l. grind (arith, nat_tests), λ l. grind (arith, nat_tests))

pub digits_more : (text : List ℕ) (at number b : ℕ) → at < length text → b ≡ get_or text at 0 → 48 ≤ b → b ≤ 57 → AreDigits text at number → AreDigits text (at + 1) (number * 10 + (b - 48))
digits_more text at number b l e low high h =
    let more : take (at + 1) text ≡ take at text ++ b ∷ [] = take_more text at 0 l ∙ ap (λ c. take at text ++ c ∷ []) (sym e) in
    let is : is_digit b ≡ true = digit_is b low high in
    record {
      digits = ap (list_all is_digit) more ∙ list_all-append is_digit (take at text) (b ∷ []) ∙ (rw h.digits (rw is refl));
      value = ap (λ v. v * 10 + (b - 48)) h.value ∙ sym (ap value_of more ∙ value_after-append (take at text) (b ∷ []) 0);
    }

-- a text whose first byte is not `0` is what its number is written as
pub text_of_number : (text : List ℕ) (at number : ℕ) → length text ≤ at → 0 < length text → get_or text 0 0 ≢ 48 → number ≤ 65536 → AreDigits text at number → text ≡ decimal number
text_of_number text at number l some first few h =
    let all : take at text ≡ text = take_all at text l in
    let value : number ≡ value_of text = h.value ∙ ap value_of all in
    sym (ap decimal value ∙ decimal-digits_value own text (sym (ap (list_all is_digit) all) ∙ h.digits) some (λ e. absurd (first e)) (omega (arith, value, few)))

-- ---- a text that is what a number is written as

module _ (text : List ℕ) (k : ℕ) (some : 0 < k) (few : k ≤ 65536) (is : text ≡ decimal k) where
  pub not_empty : 0 < length text
  not_empty = omega (arith, decimal_nonempty k (omega (arith, few)), ap length is)

  pub first_other : get_or text 0 0 ≢ 48
  first_other e = omega (arith, first_decimal k some (omega (arith, few)), ap (λ t. get_or t 0 0) is, e)

  all_digits : list_all is_digit text ≡ true
  all_digits = ap (list_all is_digit) is ∙ (decimal_writes k (omega (arith, few))).all

  value_is : value_of text ≡ k
  value_is = ap value_of is ∙ (decimal_writes k (omega (arith, few))).value

  pub each_digit : (at : ℕ) → at < length text → is_digit (get_or text at 0) ≡ true
  each_digit at l = there text at all_digits l
    where
      left : (a b : Bool) → (a && b) ≡ true → (a ≡ true) × (b ≡ true)
      left true b e = (refl, e)
      left false b e = absurd (cc)

      there : (ds : List ℕ) (i : ℕ) → list_all is_digit ds ≡ true → i < length ds → is_digit (get_or ds i 0) ≡ true
      there [] i h l = absurd (omega (arith, l))
      there (d ∷ ds) zero h l = (left (is_digit d) (list_all is_digit ds) h).0
      there (d ∷ ds) (suc i) h l = there ds i (left (is_digit d) (list_all is_digit ds) h).1 (omega (arith, l))

  pub no_other : (at : ℕ) → at < length text → (get_or text at 0 < 48 → ⊥) × (57 < get_or text at 0 → ⊥)
  no_other at l = (
    λ low. false≢true (sym ((no_digit (get_or text at 0)).0 low) ∙ each_digit at l),
    λ high. false≢true (sym ((no_digit (get_or text at 0)).1 high) ∙ each_digit at l),
  )

  grows : (ds : List ℕ) (n : ℕ) → n ≤ value_after n ds
  grows [] n = omega arith
  grows (d ∷ ds) n = omega (arith, grows ds (n * 10 + (d - 48)))

  -- its first digits write no larger number
  pub no_larger : (at number : ℕ) → AreDigits text at number → number ≤ k
  no_larger at number h =
      let whole : value_of text ≡ value_after (value_of (take at text)) (drop at text) = ap value_of (sym (take-append-drop at text)) ∙ value_after-append (take at text) (drop at text) 0 in
      omega (arith, whole, grows (drop at text) (value_of (take at text)), h.value, value_is)

  pub number_is : (at number : ℕ) → length text ≤ at → AreDigits text at number → number ≡ k
  number_is at number l h = h.value ∙ ap value_of (take_all at text l) ∙ value_is
