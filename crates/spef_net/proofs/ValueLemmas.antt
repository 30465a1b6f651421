-- Numbers have no colons.
use Rattle.std.proofs.Common.{◌≡◌, ℕ, ◌+◌, ◌++◌, ◌<◌, ◌≤◌, ◌⊎◌, inl, inr, Bool, true, false, ◌&&◌, ◌||◌, not, nat_lt, eqb, List, [], ◌∷◌, length, get_or, take_all, refl, sym, ap, ◌∙◌, arith, Option, Some, None, is_some, Ok}
use Rattle.std.specs.Prelude.{ℤ}
use Rattle.std.specs.List.{before_first, after_first, position, position_or_len, list_all}
use Rattle.std.specs.Str.Parse.{without_leading_sign}
use Rattle.std.proofs.lemmas.Bool.{cases_lt, eqb-true}
use Rattle.std.proofs.lemmas.List.{drop_all}
use Rattle.std.proofs.lemmas.List.Folds.{list_all-append, list_all_at}
use Rattle.std.proofs.lemmas.List.Sums.{split_at_first, passes_at_first, position_or_len_is}
use Rattle.vg_num.specs.Number.{is_e, is_point, is_digit, are_digits, mantissa, whole, fraction, exponent, is_number, scaled}
use Rattle.spef_net.specs.Statements.{is_colon}
use Rattle.spef_net.proofs.PlaceLemmas.{first_none}
use Rattle.vg_scan.proofs.CutLemmas.{none_at}

-- a byte that is no colon
abbrev pub is_other : ℕ → Bool
is_other b = not (is_colon b)

both_true : (a b : Bool) → (a && b) ≡ true → (a ≡ true) × (b ≡ true)
both_true true b e = (refl, e)
both_true false b e = absurd (cc)

-- all bytes of a text pass where those before and after the first of some kind do, and that kind does
around : (p q : ℕ → Bool) (xs : List ℕ) → ((b : ℕ) → p b ≡ true → q b ≡ true) → list_all q (before_first p xs) ≡ true → list_all q (after_first p xs) ≡ true
    → (position_or_len p xs < length xs) ⊎ (length xs ≤ position_or_len p xs) → list_all q xs ≡ true
around p q xs own front back (inl h) =
    ap (list_all q) (split_at_first p xs 0 h)
    ∙ list_all-append q (before_first p xs) (get_or xs (position_or_len p xs) 0 ∷ after_first p xs)
    ∙ (rw front (rw (own (get_or xs (position_or_len p xs) 0) (passes_at_first p xs 0 h)) back))
around p q xs own front back (inr h) = ap (list_all q) (sym (take_all (position_or_len p xs) xs h)) ∙ front

all_around : (p q : ℕ → Bool) (xs : List ℕ) → ((b : ℕ) → p b ≡ true → q b ≡ true) → list_all q (before_first p xs) ≡ true → list_all q (after_first p xs) ≡ true → list_all q xs ≡ true
all_around p q xs own front back = around p q xs own front back (cases_lt (position_or_len p xs) (length xs))

-- a byte of the other kind passes each test that a digit, a point, an e and a sign pass
digit_other : (b : ℕ) → is_digit b ≡ true → is_other b ≡ true
digit_other b e = grind (arith)

point_other : (b : ℕ) → is_point b ≡ true → is_other b ≡ true
point_other b e = grind (arith)

e_other : (b : ℕ) → is_e b ≡ true → is_other b ≡ true
e_other b e = grind (arith)

all_weaker : (p q : ℕ → Bool) (xs : List ℕ) → ((b : ℕ) → p b ≡ true → q b ≡ true) → list_all p xs ≡ true → list_all q xs ≡ true
all_weaker p q [] h e = refl
all_weaker p q (x ∷ xs) h e =
    let both = both_true (p x) (list_all p xs) e in
    rw (h x both.0) (all_weaker p q xs h both.1)

first_sign : (q : ℕ → Bool) (b : ℕ) (bs : List ℕ) (is_minus is_plus : Bool) → eqb b 45 ≡ is_minus → eqb b 43 ≡ is_plus → q 43 ≡ true → q 45 ≡ true → list_all q (without_leading_sign (b ∷ bs)) ≡ true → list_all q (b ∷ bs) ≡ true
first_sign q b bs true is_plus m p plus minus e = rw (ap q (eqb-true b 45 m) ∙ minus) (rw m at e)
first_sign q b bs false true m p plus minus e = rw (ap q (eqb-true b 43 p) ∙ plus) (rw (m, p) at e)
first_sign q b bs false false m p plus minus e = rw (m, p) at e

unsigned_all : (q : ℕ → Bool) (text : List ℕ) → q 43 ≡ true → q 45 ≡ true → list_all q (without_leading_sign text) ≡ true → list_all q text ≡ true
unsigned_all q [] plus minus e = refl
unsigned_all q (b ∷ bs) plus minus e = first_sign q b bs (eqb b 45) (eqb b 43) refl refl plus minus e

exponent_all : (text : List ℕ) (o : Option ℕ) → position is_e text ≡ o → (not (is_some (position is_e text)) || are_digits (without_leading_sign (exponent text))) ≡ true → list_all is_other (after_first is_e text) ≡ true
unfolding exponent
exponent_all text None at e = ap (list_all is_other) (drop_all (position_or_len is_e text + 1) text (omega (arith, first_none is_e text at)))
exponent_all text (Some i) at e =
    let digits = (both_true (nat_lt 0 (length (without_leading_sign (exponent text)))) (list_all is_digit (without_leading_sign (exponent text))) (rw at at e)).1 in
    unsigned_all is_other (exponent text) refl refl (all_weaker is_digit is_other (without_leading_sign (exponent text)) digit_other digits)

-- no byte of a number is a colon
number_all : (text : List ℕ) → is_number text ≡ true → list_all is_other text ≡ true
unfolding is_number mantissa whole fraction exponent
number_all text e =
    let parts = both_true (are_digits (whole text ++ fraction text)) (not (is_some (position is_e text)) || are_digits (without_leading_sign (exponent text))) e in
    let digits = (both_true (nat_lt 0 (length (whole text ++ fraction text))) (list_all is_digit (whole text ++ fraction text)) parts.0).1 in
    let others : list_all is_other (whole text ++ fraction text) ≡ true = all_weaker is_digit is_other (whole text ++ fraction text) digit_other digits in
    let two = both_true (list_all is_other (whole text)) (list_all is_other (fraction text)) (sym (list_all-append is_other (whole text) (fraction text)) ∙ others) in
    let front : list_all is_other (before_first is_e text) ≡ true = unsigned_all is_other (before_first is_e text) refl refl (all_around is_point is_other (mantissa text) point_other two.0 two.1) in
    all_around is_e is_other text e_other front (exponent_all text (position is_e text) refl parts.1)

-- a text that reads as a number is a number, and has no colon
readable : (places : ℤ) (most : ℕ) (text : List ℕ) (n : ℕ) (is : Bool) → is_number text ≡ is → scaled places most text ≡ Ok n → is_number text ≡ true
unfolding scaled
readable places most text n true is e = is
readable places most text n false is e = absurd (let x = rw is at e in cc)

other_is : (b : Bool) → not b ≡ true → b ≡ false
other_is true e = absurd (cc)
other_is false e = refl

colon_there : (text : List ℕ) (k : ℕ) → k < length text → list_all is_other text ≡ true → (is : Bool) → is_other (get_or text k 0) ≡ is → is_colon (get_or text k 0) ≡ false
colon_there text k h e true is = other_is (is_colon (get_or text k 0)) is
colon_there text k h e false is = absurd (let x = sym e ∙ list_all_at is_other text k 0 h is in cc)

no_colon : (text : List ℕ) → list_all is_other text ≡ true → position is_colon text ≡ None
no_colon text e = none_at is_colon text (position_or_len_is is_colon text (length text) 0 (omega arith) (λ k h. colon_there text k h e (is_other (get_or text k 0)) refl) (λ h. absurd (omega (arith, h))))

pub number_without_colon : (places : ℤ) (most : ℕ) (text : List ℕ) (n : ℕ) → scaled places most text ≡ Ok n → position is_colon text ≡ None
number_without_colon places most text n e = no_colon text (number_all text (readable places most text n (is_number text) refl e))
