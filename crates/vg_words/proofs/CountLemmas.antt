-- A number of at most so many digits, which write 1 to some greatest number, as it is written.
use Rattle.std.proofs.Common.{◌≡◌, ◌≤◌, ◌<◌, ◌^◌, ℕ, Bool, true, false, List, [], ◌∷◌, ap, sym, refl, ◌∙◌, Some, None, Ok, Err, unwrap_or, nat_le, nat_lt, length, leb-true, ℤ, pos, if◌then◌else◌, arith, not, ◌<ℤ◌, ◌≤ℤ◌, drop, le-leb, ltb-true, nat_abs}
use Rattle.std.proofs.lemmas.Int.{ints}
use Rattle.std.proofs.lemmas.Bool.{eqb-true, false≢true}
use Rattle.std.specs.Str.Parse.{starts_with_minus}
use Rattle.clap.proofs.WalkLemmas.{both}
use Rattle.vg_num.specs.Number.{are_digits, is_digit, value_of as number_of, whole_of, with_sign}
use Rattle.vg_num.specs.declared.fault.NumFault.{NumFault}
use Rattle.vg_num.specs.declared.fault.NumFault.TheVariants.{Form, TooLarge}
use Rattle.vg_words.specs.Request.{is_count, count_in}

-- what such a text is
record AreFacts (count most : ℕ) (text : List ℕ) : Type 0 where
  digits : are_digits text ≡ true
  short : length text ≤ count
  least : 1 ≤ number_of text
  small : number_of text ≤ most

facts : (count most : ℕ) (text : List ℕ) → is_count count most text ≡ true → AreFacts count most text
facts count most text e =
    let (digits, rest) = both (are_digits text) _ e in
    let (short, within) = both (nat_le (length text) count) _ rest in
    let (least, small) = both (nat_le 1 (number_of text)) _ within in
    record {
      digits = digits;
      short = leb-true (length text) count short;
      least = leb-true 1 (number_of text) least;
      small = leb-true (number_of text) most small;
    }

-- its number is 1 to the greatest
pub count_small : (count most : ℕ) (text : List ℕ) → is_count count most text ≡ true
    → let n = unwrap_or (count_in count most text) 0 in (1 ≤ n) × (n ≤ most)
count_small count most text e = let f = facts count most text e in rw e (f.least, f.small)

-- another text has none
no_count : (count most : ℕ) (text : List ℕ) → (is_count count most text ≡ true → ⊥) → None ≡ count_in count most text
no_count count most text other = go (is_count count most text) refl
  where
    go : (b : Bool) → is_count count most text ≡ b → None ≡ count_in count most text
    go true is = absurd (other is)
    go false is = rw is refl

pub no_digits : (text : List ℕ) → starts_with_minus text ≡ true → are_digits text ≡ true → ⊥
no_digits [] is e = false≢true is
no_digits (b ∷ bs) is e =
    let minus : b ≡ 45 = eqb-true b 45 is in
    let digit : is_digit 45 ≡ true = ap is_digit (sym minus) ∙ (both (is_digit b) _ (both (nat_lt 0 (length (b ∷ bs))) _ e).1).0 in
    false≢true digit

-- digits begin with no minus
no_minus : (text : List ℕ) → are_digits text ≡ true → starts_with_minus text ≡ false
no_minus text e = go (starts_with_minus text) refl
  where
    go : (b : Bool) → starts_with_minus text ≡ b → b ≡ false
    go true is = absurd (no_digits text is e)
    go false is = refl

-- what reading makes of digits
pub digits_read : (text : List ℕ) → are_digits text ≡ true
    → whole_of text ≡ (if nat_lt (10 ^ 26) (number_of text) then Err TooLarge else Ok (pos (number_of text)))
unfolding whole_of
digits_read text e = rw (no_minus text e, e) refl

-- and of other texts
negative : (n : ℕ) → with_sign true n <ℤ pos 1
negative n = omega (arith, ints)

minus_number : (digits large : Bool) (n : ℕ) (z : ℤ)
    → Ok z ≡ (if not digits then Err Form else (if large then Err TooLarge else Ok (with_sign true n))) → z <ℤ pos 1
minus_number true false n z e = let is : z ≡ with_sign true n = cc in rw is (negative n)
minus_number true true n z e = absurd (cc)
minus_number false large n z e = absurd (cc)

pub minus_read : (text : List ℕ) (z : ℤ) → are_digits text ≡ false → Ok z ≡ whole_of text → z <ℤ pos 1
unfolding whole_of
minus_read text z other e = go (starts_with_minus text) refl
  where
    go : (b : Bool) → starts_with_minus text ≡ b → z <ℤ pos 1
    go true is = let rest = drop 1 text in minus_number (are_digits rest) (nat_lt (10 ^ 26) (number_of rest)) (number_of rest) z (e ∙ rw is refl)
    go false is = let fault : Ok z ≡ Err Form = e ∙ rw (is, other) refl in absurd (cc)

pub number_read : (text : List ℕ) (z : ℤ) → are_digits text ≡ true → Ok z ≡ whole_of text → z ≡ pos (number_of text)
number_read text z digits e = go (nat_lt (10 ^ 26) (number_of text)) refl
  where
    go : (b : Bool) → nat_lt (10 ^ 26) (number_of text) ≡ b → z ≡ pos (number_of text)
    go true is = let fault : Ok z ≡ Err TooLarge = e ∙ digits_read text digits ∙ rw is refl in absurd (cc)
    go false is = let read : Ok z ≡ Ok (pos (number_of text)) = e ∙ digits_read text digits ∙ rw is refl in cc

-- reading refuses a text, or its number is too small or too large: it is no such number
pub fault_none : (count most : ℕ) (text : List ℕ) (fault : NumFault) → most < 2 ^ 32 → Err fault ≡ whole_of text → None ≡ count_in count most text
fault_none count most text fault few e =
    no_count count most text (λ is. go (facts count most text is) (nat_lt (10 ^ 26) (number_of text)) refl)
  where
    go : AreFacts count most text → (b : Bool) → nat_lt (10 ^ 26) (number_of text) ≡ b → ⊥
    go f true large = let l = ltb-true (10 ^ 26) (number_of text) large in absurd (omega (arith, l, f.small, few))
    go f false small = let read : Err fault ≡ Ok (pos (number_of text)) = e ∙ digits_read text f.digits ∙ rw small refl in absurd (cc)

pub long_none : (count most : ℕ) (text : List ℕ) → count < length text → None ≡ count_in count most text
long_none count most text long =
    no_count count most text (λ is. let short = (facts count most text is).short in absurd (omega (arith, short)))

pub small_none : (count most : ℕ) (text : List ℕ) (z : ℤ) → Ok z ≡ whole_of text → z <ℤ pos 1 → None ≡ count_in count most text
small_none count most text z e small =
    no_count count most text
    (λ is. let f = facts count most text is in let read = number_read text z f.digits e in absurd (omega (arith, ints, read, f.least)))

pub large_none : (count most : ℕ) (text : List ℕ) (z : ℤ) → Ok z ≡ whole_of text → pos most <ℤ z → None ≡ count_in count most text
large_none count most text z e large =
    no_count count most text
    (λ is. let f = facts count most text is in let read = number_read text z f.digits e in absurd (omega (arith, ints, read, f.small)))

-- else it is one
pub count_read : (count most : ℕ) (text : List ℕ) (z : ℤ) → Ok z ≡ whole_of text → length text ≤ count → pos 1 ≤ℤ z → z ≤ℤ pos most
    → Some (nat_abs z) ≡ count_in count most text
count_read count most text z e short least small = go (are_digits text) refl
  where
    go : (b : Bool) → are_digits text ≡ b → Some (nat_abs z) ≡ count_in count most text
    go false other = let negative = minus_read text z other e in absurd (omega (arith, ints, negative))
    go true digits =
        let read = number_read text z digits e in
        let l : 1 ≤ number_of text = omega (arith, ints, read) in
        let m : number_of text ≤ most = omega (arith, ints, read) in
        rw (digits, le-leb (length text) count short, le-leb 1 (number_of text) l, le-leb (number_of text) most m)
        (ap (λ x. Some (nat_abs x)) read)
