-- Kinds of numbers.
use Rattle.std.proofs.Common.{◌≡◌, ℕ, ◌≤◌, min, ap, arith, inl, inr}
use Rattle.std.proofs.lemmas.Bool.{cases_lt}
use Rattle.std.proofs.lemmas.Bool.Decides.{nat_tests}
use Rattle.ver_text.specs.declared.kind.Kind.TheVariants.{Large}
use Rattle.ver_text.specs.Kinds.{number_kind}

over : (n : ℕ) → 1048577 ≤ n → number_kind n ≡ Large
over n h = grind (arith, nat_tests)

-- numbers over the limit are not told apart
pub kind_capped : (n : ℕ) → number_kind (min n 1048577) ≡ number_kind n
kind_capped n = elim (cases_lt n 1048577) [
  | inl h ↦ let e : min n 1048577 ≡ n = omega arith in ap number_kind e
  | inr h ↦ rw (over n h) (over (min n 1048577) (omega arith))
]
