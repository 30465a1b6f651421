-- A list that rises in time, with one candidate more at its end.
use Rattle.std.proofs.Common.{◌≡◌, true, List, [], ◌∷◌, ◌++◌, arith, inl, inr, ℤ}
use Rattle.std.specs.Prelude.{int_lt, ◌≤ℤ◌, ◌<ℤ◌}
use Rattle.std.proofs.lemmas.Bool.{cases_Bool}
use Rattle.std.proofs.lemmas.Int.{ints}
use Rattle.cand_pool.specs.Candidates.{Candidate, Candidates}
use Rattle.cand_pool.specs.Laws.{RisesOver, RisesInTime}

-- each of these is earlier than this time
abbrev pub AreBefore : ℤ → List Candidate → Type 0
AreBefore time [] = Unit {0}
AreBefore time (x ∷ xs) = (x.q <ℤ time) × AreBefore time xs

pub before_later : (time later : ℤ) (xs : Candidates) → time ≤ℤ later → AreBefore time xs → AreBefore later xs
before_later time later [] on before = tt
before_later time later (x ∷ xs) on before =
    let early : x.q <ℤ time = before.0 in (omega (arith, ints, on, early), before_later time later xs on before.1)

pub before_append : (time : ℤ) (xs : Candidates) (x : Candidate) → AreBefore time xs → x.q <ℤ time → AreBefore time (xs ++ x ∷ [])
before_append time [] x before early = (early, tt)
before_append time (y ∷ ys) x before early = (before.0, before_append time ys x before.1 early)

-- a time that is later is over it
pub over_later : (best time : ℤ) → best <ℤ time → int_lt best time ≡ true
over_later best time late = elim (cases_Bool (int_lt best time)) [ inl t ↦ t | inr f ↦ absurd (omega (arith, ints, f, late)) ]

over_append : (best : ℤ) (xs : Candidates) (x : Candidate) → RisesOver best xs → AreBefore x.q xs → best <ℤ x.q → RisesOver best (xs ++ x ∷ [])
over_append best [] x rises before late = (over_later best x.q late, tt)
over_append best (y ∷ ys) x rises before late = (rises.0, over_append y.q ys x rises.1 before.1 before.0)

pub rises_append : (xs : Candidates) (x : Candidate) → RisesInTime xs → AreBefore x.q xs → RisesInTime (xs ++ x ∷ [])
rises_append [] x rises before = tt
rises_append (y ∷ ys) x rises before = over_append y.q ys x rises before.1 before.0
