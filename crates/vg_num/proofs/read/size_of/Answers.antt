use Rattle.std.proofs.Common.{◌≡◌, ℕ, ◌++◌, true, ◌||◌, not, nat_lt, List, length, arith, ◌∙◌, ap, pos, ◌+ℤ◌, ◌-ℤ◌, length-append}
use Rattle.std.specs.List.{before_first, after_first, list_all}
use Rattle.std.specs.Str.Parse.{starts_with_minus, without_leading_sign}
use Rattle.vg_num.specs.Number.{is_number, are_digits, has_exponent, is_digit, is_point, coefficient, power, digits, exponent, whole, fraction, mantissa, value_of, capped_value_of}
use Rattle.std.proofs.lemmas.Bool.{and_parts}
use Rattle.std.proofs.lemmas.Int.{to_z-of_z}
use mir.Syntax.{w32, w128}
use mir.Val.{SFits}
use Rattle.std.proofs.Common.{rules}
use Rattle.vg_num.proofs.ClipLemmas.{clip, Stands}
use Rattle.vg_num.proofs.read.size_of.Goals as goal

number_digits : (text : List ℕ) → is_number text ≡ true → list_all is_digit (digits text) ≡ true
unfolding is_number
number_digits text e =
    let a = and_parts (are_digits (digits text)) (not (has_exponent text) || are_digits (without_leading_sign (exponent text))) e in
    (and_parts (nat_lt 0 (length (digits text))) (list_all is_digit (digits text)) a.0).1

same_digits : (text m w f : List ℕ) → w ≡ before_first is_point m → f ≡ after_first is_point m → m ≡ mantissa text → (w ≡ whole text) × (f ≡ fraction text)
unfolding whole fraction
same_digits text m w f a b e = (a ∙ ap (before_first is_point) e, b ∙ ap (after_first is_point) e)

pub nearest_whole-requires-clause-digits : goal.nearest_whole-requires-clause-digits
nearest_whole-requires-clause-digits c =
    let text = c.args.text.now in
    let (w, f) = same_digits text c.mantissa_of-mantissa.result.now c.before_point-whole.result.now c.after_point-fraction.result.now c.before_point-whole.ensures c.after_point-fraction.ensures c.mantissa_of-mantissa.ensures in
    rw w (rw f (number_digits text c.requires.number))

pub returns : goal.returns
unfolding power coefficient
returns c =
    let text = c.args.text.now in
    let (w, f) = same_digits text c.mantissa_of-mantissa.result.now c.before_point-whole.result.now c.after_point-fraction.result.now c.before_point-whole.ensures c.after_point-fraction.ensures c.mantissa_of-mantissa.ensures in
    let p : c.power_of.result ≡ (capped_value_of 1000000000000000000000000000000 (exponent text) -ℤ pos (length (fraction text))) +ℤ c.args.places =
    (rw (to_z-of_z w32 c.args.places c.ranges.places) at c.power_of.ensures.value) ∙ ap (λ x. (capped_value_of 1000000000000000000000000000000 (exponent text) -ℤ pos (length x)) +ℤ c.args.places) f in
    let s : Stands c.power_of.result (value_of (whole text ++ fraction text)) c.nearest_whole.result =
    (let fit : SFits w128 c.power_of.result = search rules in rw (← w) (rw (← f) (rw (to_z-of_z w128 c.power_of.result fit) at c.nearest_whole.ensures))) in
    clip (starts_with_minus (exponent text)) (value_of (without_leading_sign (exponent text))) (length (fraction text)) c.args.places (digits text) c.nearest_whole.result
    (number_digits text c.requires.number) c.requires.low c.requires.high (omega (arith, length-append (whole text) (fraction text))) (omega (arith, ap length w, ap length f, length-append (whole text) (fraction text)))
    (rw p at s)
