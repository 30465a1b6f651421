-- The cap on costs, as it is written.
use Rattle.std.proofs.Common.{◌≡◌, ◌≤◌, ◌<◌, ◌^◌, ℕ, Bool, true, false, List, refl, ap, ◌∙◌, Some, None, Ok, Err, nat_lt, length, leb-true, le-leb, ltb-true, ℤ, pos, nat_abs, arith, if◌then◌else◌}
use Rattle.std.proofs.Math.Nat.{pow-le-pow_right}
use Rattle.std.specs.Str.Parse.{starts_with_minus}
use Rattle.clap.proofs.WalkLemmas.{both}
use Rattle.vg_num.specs.Number.{are_digits, value_of as number_of, whole_of}
use Rattle.vg_num.specs.declared.fault.NumFault.{NumFault}
use Rattle.vg_num.specs.declared.fault.NumFault.TheVariants.{Form, TooLarge}
use Rattle.vg_num.proofs.CapLemmas.{value_of-lt}
use Rattle.vg_words.specs.Request.{cap_in, is_cap}
use Rattle.vg_words.proofs.CountLemmas.{digits_read, no_digits, number_read}

-- a text that is no cap has none
no_cap : (text : List ℕ) → (is_cap text ≡ true → ⊥) → None ≡ cap_in text
no_cap text other = go (is_cap text) refl
  where
    go : (b : Bool) → is_cap text ≡ b → None ≡ cap_in text
    go true is = absurd (other is)
    go false is = rw is refl

-- what few digits write is less than what a digit more can
below : (a b c : ℕ) → a < b → b ≤ c → a < c
below a b c l h = omega (arith, l, h)

more_digits : (n k : ℕ) → n < 10 ^ k → k ≤ 18 → n < 10 ^ 18
more_digits n k l h = below n (10 ^ k) (10 ^ 18) l (pow-le-pow_right (omega arith) h)

pub small : (text : List ℕ) → are_digits text ≡ true → length text ≤ 18 → number_of text < 10 ^ 18
small text digits short = more_digits (number_of text) (length text) (value_of-lt text (both (nat_lt 0 (length text)) _ digits).1) short

-- so reading finds it
read_ok : (text : List ℕ) → are_digits text ≡ true → length text ≤ 18 → whole_of text ≡ Ok (pos (number_of text))
read_ok text digits short = digits_read text digits ∙ go (nat_lt (10 ^ 26) (number_of text)) refl
  where
    go : (b : Bool) → nat_lt (10 ^ 26) (number_of text) ≡ b
        → (if nat_lt (10 ^ 26) (number_of text) then Err TooLarge else Ok (pos (number_of text))) ≡ Ok (pos (number_of text))
    go true large = let l = ltb-true (10 ^ 26) (number_of text) large in let s = small text digits short in absurd (omega (arith, l, s))
    go false is = rw is refl

-- a long text, one that begins with a minus, and one that reading refuses are no caps
pub long_none : (text : List ℕ) → 18 < length text → None ≡ cap_in text
long_none text long =
    no_cap text (λ is. let short = leb-true (length text) 18 (both (are_digits text) _ is).1 in absurd (omega (arith, short)))

pub minus_none : (text : List ℕ) → starts_with_minus text ≡ true → None ≡ cap_in text
minus_none text minus = no_cap text (λ is. no_digits text minus (both (are_digits text) _ is).0)

pub fault_none : (text : List ℕ) (fault : NumFault) → Err fault ≡ whole_of text → None ≡ cap_in text
fault_none text fault e =
    no_cap text
    (λ is.
    let (digits, short) = both (are_digits text) _ is in
    let read : Err fault ≡ Ok (pos (number_of text)) = e ∙ read_ok text digits (leb-true (length text) 18 short) in
    absurd (cc))

-- else it is one
form_fault : (z : ℤ) → Ok z ≡ Err Form → ⊥
form_fault z e = cc

pub are_read : (text : List ℕ) (z : ℤ) → Ok z ≡ whole_of text → starts_with_minus text ≡ false → are_digits text ≡ true
unfolding whole_of
are_read text z e plain = go (are_digits text) refl
  where
    go : (b : Bool) → are_digits text ≡ b → b ≡ true
    go true is = refl
    go false other = absurd (form_fault z (e ∙ rw (plain, other) refl))

pub read : (text : List ℕ) (z : ℤ) → Ok z ≡ whole_of text → length text ≤ 18 → starts_with_minus text ≡ false → Some (nat_abs z) ≡ cap_in text
read text z e short plain =
    let digits = are_read text z e plain in
    rw (digits, le-leb (length text) 18 short) (ap (λ x. Some (nat_abs x)) (number_read text z digits e))

-- its number is small
pub small_read : (text : List ℕ) (z : ℤ) → Ok z ≡ whole_of text → length text ≤ 18 → starts_with_minus text ≡ false
    → (n : ℕ) × (z ≡ pos n) × (n < 10 ^ 18)
small_read text z e short plain =
    let digits = are_read text z e plain in
    (number_of text, number_read text z digits e, small text digits short)
