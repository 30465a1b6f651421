-- The slack that is enough, as it is written.
use Rattle.std.proofs.Common.{◌≡◌, ℕ, true, List, [], refl, sym, ap, ◌∙◌, Option, Some, None, is_some, unwrap_or, ℤ, pos}
use Rattle.std.proofs.lemmas.Bool.{false≢true}
use Rattle.vg_num.specs.Number.{exponent, fraction, is_number, mantissa, signed_scaled, whole}
use Rattle.vg_words.specs.Request.{is_target, target_in}

abbrev time_of : Option (List ℕ) → ℤ
time_of target = unwrap_or (target_in (unwrap_or target [])) (pos 0)

known : (time : Option ℤ) → is_some time ≡ true → time ≡ Some (unwrap_or time (pos 0))
known (Some z) e = refl
known None e = absurd (false≢true e)

-- a text that is a target writes the time that is asked for
pub time_read : (target : Option (List ℕ)) (text : List ℕ) → is_target text ≡ true → target ≡ Some text → target_in text ≡ Some (time_of target)
time_read target text is given = known (target_in text) is ∙ ap (λ o. Some (time_of o)) (sym given)

-- no text writes none
none_written : target_in [] ≡ None
unfolding signed_scaled is_number whole fraction mantissa exponent
none_written = refl

pub no_target : (target : Option (List ℕ)) → target ≡ None → time_of target ≡ pos 0
no_target target none = ap time_of none ∙ ap (λ (time : Option ℤ). unwrap_or time (pos 0)) none_written
