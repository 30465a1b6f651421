-- The first place whose byte passes a test, as a search for bytes answers it.
use Rattle.std.proofs.Common.{◌≡◌, ℕ, ◌<◌, Bool, true, false, List, length, arith, refl, Option, Some, None, ltb}
use Rattle.std.proofs.lemmas.Bool.Decides.{nat_tests}
use Rattle.std.specs.List.{position}
use Rattle.std.proofs.lemmas.List.Sums.{position_or_len_is}
use Rattle.memchr.specs.Find.{IsFirstByte}

pub not_true : (b : Bool) → (b ≡ true → ⊥) → b ≡ false
not_true true h = absurd (h refl)
not_true false h = refl

pub lt_yes : (a b : ℕ) → a < b → ltb a b ≡ true
lt_yes a b l = grind (arith, nat_tests)

pub lt_no : (a : ℕ) → ltb a a ≡ false
lt_no a = grind (arith, nat_tests)

pub first_is : (test : ℕ → Bool) (hay : List ℕ) (r : Option ℕ) → IsFirstByte test hay r → r ≡ position test hay
first_is test hay None h =
    let e = position_or_len_is test hay (length hay) 0 (omega arith) (λ k l. not_true _ (h k (omega arith) l)) (λ l. absurd (omega arith)) in
    rw e (rw (lt_no (length hay)) refl)
first_is test hay (Some k) h =
    let high : k < length hay = h.0.high in
    let e = position_or_len_is test hay k 0 (omega arith) (λ j l. not_true _ (h.0.before j (omega arith) l)) (λ _. h.1) in
    rw e (rw (lt_yes k (length hay) high) refl)
