-- The texts of numbers, and the fraction that each denotes.
use Rattle.std.specs.Prelude.{◌≡◌, ℕ, ◌+◌, ◌-◌, ◌*◌, ◌^◌, ◌<◌, ◌≤◌, ◌==◌, ◌||◌, Bool, true, false, List, [], ◌∷◌, ◌++◌, length, ℤ, pos, negsuc, ◌+ℤ◌, ◌-ℤ◌}
use Rattle.std.specs.Prelude.{Result, Ok, Err}
use Rattle.std.specs.Prelude.{◌/◌, if◌then◌else◌, nat_le, nat_lt, min, not, is_some, ◌&&◌, cond, neg_ℤ, ◌≤ℤ◌, MatchBool, unsigned_abs, drop}
use Rattle.std.specs.List.{before_first, after_first, position, list_all}
use Rattle.std.specs.Str.Parse.{starts_with_minus, without_leading_sign}
use Rattle.vg_num.specs.declared.fault.NumFault.{NumFault}
use Rattle.vg_num.specs.declared.fault.NumFault.TheVariants.{Form, Negative, TooLarge}

abbrev pub is_e : ℕ → Bool
is_e b = (b == 101) || (b == 69)

abbrev pub is_point : ℕ → Bool
is_point b = b == 46

abbrev pub is_digit : ℕ → Bool
is_digit b = nat_le 48 b && nat_le b 57

-- one digit or more, and nothing else
abbrev pub are_digits : List ℕ → Bool
are_digits bs = nat_lt 0 (length bs) && list_all is_digit bs

-- the number that the digits write when they follow those of n
abbrev pub value_after : ℕ → List ℕ → ℕ
value_after n [] = n
value_after n (b ∷ bs) = value_after (n * 10 + (b - 48)) bs

-- the number that digits write
abbrev pub value_of : List ℕ → ℕ
value_of bs = value_after 0 bs

-- a size with a sign before it; 0 has none
abbrev pub with_sign : Bool → ℕ → ℤ
with_sign minus size = cond minus (neg_ℤ (pos size)) (pos size)

-- the number that a sign and digits write
abbrev pub signed_value_of : List ℕ → ℤ
signed_value_of bs = with_sign (starts_with_minus bs) (value_of (without_leading_sign bs))

-- the same number, where its size is capped
abbrev pub capped_value_of : ℕ → List ℕ → ℤ
capped_value_of cap bs = with_sign (starts_with_minus bs) (min (value_of (without_leading_sign bs)) cap)

-- the text before its first e, without a sign
unfoldable pub mantissa : List ℕ → List ℕ
mantissa text = without_leading_sign (before_first is_e text)

-- the digits on both sides of the mantissa's first point
unfoldable pub whole : List ℕ → List ℕ
whole text = before_first is_point (mantissa text)

unfoldable pub fraction : List ℕ → List ℕ
fraction text = after_first is_point (mantissa text)

abbrev pub digits : List ℕ → List ℕ
digits text = whole text ++ fraction text

-- what follows the first e
unfoldable pub exponent : List ℕ → List ℕ
exponent text = after_first is_e text

abbrev pub has_exponent : List ℕ → Bool
has_exponent text = is_some (position is_e text)

-- digits with at most one point; where there is an e, a sign and digits after it
unfoldable pub is_number : List ℕ → Bool
is_number text =
    are_digits (digits text) && (not (has_exponent text) || are_digits (without_leading_sign (exponent text)))

-- the number that all digits write, without the point
unfoldable pub coefficient : List ℕ → ℕ
coefficient text = value_of (digits text)

-- the power of ten at which the last digit stands, once the value is multiplied by ten to the places
unfoldable pub power : ℤ → List ℕ → ℤ
power places text = (signed_value_of (exponent text) -ℤ pos (length (fraction text))) +ℤ places

-- c times ten to a power is this fraction
abbrev pub numerator : ℤ → ℕ → ℕ
numerator (pos k) c = c * 10 ^ k
numerator (negsuc k) c = c

abbrev pub denominator : ℤ → ℕ
denominator (pos k) = 1
denominator (negsuc k) = 10 ^ (k + 1)

-- n is at most a half above the fraction, and less than a half below it
abbrev pub IsNearest : ℕ → ℕ → ℕ → Type 0
IsNearest n num den = (2 * n * den ≤ 2 * num + den) × (2 * num < 2 * n * den + den)

-- n stands for the size of the value of the text times ten to the places
abbrev pub StandsFor : ℤ → List ℕ → ℕ → Type 0
StandsFor places text n =
    IsNearest n (numerator (power places text) (coefficient text)) (denominator (power places text))

-- a minus before a value that is not zero
unfoldable pub is_negative : List ℕ → Bool
is_negative text = starts_with_minus text && nat_lt 0 (coefficient text)

abbrev pub IsFault : ℤ → ℕ → List ℕ → NumFault → Type 0
IsFault places most text Form = is_number text ≡ false
IsFault places most text Negative = (is_number text ≡ true) × (is_negative text ≡ true)
IsFault places most text TooLarge =
    (is_number text ≡ true) × (is_negative text ≡ false) × (n : ℕ) × (most < n) × StandsFor places text n

-- the text is a number, not negative, and stands for n
pub record IsScaled (places : ℤ) (most : ℕ) (text : List ℕ) (n : ℕ) : Type 0 where
  pub number : is_number text ≡ true
  pub sign : is_negative text ≡ false
  pub value : StandsFor places text n
  pub small : n ≤ most

-- the nearest whole number, a half away from zero
abbrev pub nearest_to : ℕ → ℕ → ℕ
nearest_to num den = (2 * num + den) / (2 * den)

-- the size of the text's value times ten to the places, rounded
abbrev pub nearest_size : ℤ → List ℕ → ℕ
nearest_size places text =
    nearest_to (numerator (power places text) (coefficient text)) (denominator (power places text))

-- what reading gives: the text's value times ten to the places, rounded, or the first fault
unfoldable pub scaled : ℤ → ℕ → List ℕ → Result ℕ NumFault
scaled places most text =
    if not (is_number text) then Err Form
    else (if is_negative text then Err Negative
    else (if nat_lt most (nearest_size places text) then Err TooLarge
    else Ok (nearest_size places text)))

-- the text is a number, z has its sign, and the size of z stands for its size
pub record IsSigned (places : ℤ) (most : ℕ) (text : List ℕ) (z : ℤ) : Type 0 where
  pub number : is_number text ≡ true
  pub sign : MatchBool (starts_with_minus text) (z ≤ℤ pos 0) (pos 0 ≤ℤ z)
  pub value : StandsFor places text (unsigned_abs z)
  pub small : unsigned_abs z ≤ most

-- a signed number has no fault of its sign
abbrev pub IsSignedFault : ℤ → ℕ → List ℕ → NumFault → Type 0
IsSignedFault places most text Form = is_number text ≡ false
IsSignedFault places most text Negative = ⊥
IsSignedFault places most text TooLarge = (is_number text ≡ true) × (n : ℕ) × (most < n) × StandsFor places text n

-- what reading a signed number gives: the rounded size with the text's sign, where the limit is the size's
unfoldable pub signed_scaled : ℤ → ℕ → List ℕ → Result ℤ NumFault
signed_scaled places most text =
    if not (is_number text) then Err Form
    else (if nat_lt most (nearest_size places text) then Err TooLarge
    else Ok (with_sign (starts_with_minus text) (nearest_size places text)))

-- the text without a minus before it
abbrev pub without_minus : List ℕ → List ℕ
without_minus text = cond (starts_with_minus text) (drop 1 text) text

-- what reading a whole number gives: a minus or none, and digits
unfoldable pub whole_of : List ℕ → Result ℤ NumFault
whole_of text =
    if not (are_digits (without_minus text)) then Err Form
    else (if nat_lt (10 ^ 26) (value_of (without_minus text)) then Err TooLarge
    else Ok (with_sign (starts_with_minus text) (value_of (without_minus text))))
