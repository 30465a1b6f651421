-- A certificate has one verdict.
use Rattle.std.proofs.Common.{◌≡◌, ℕ, ◌<◌, List, refl, sym, ap, ◌∙◌, arith, inl, inr, Option}
use Rattle.std.proofs.lemmas.Bool.{cases_lt}
use Rattle.elmore.specs.Legal.{IsLegalAt}
use Rattle.elmore.specs.Placements.{HasPolarity, IsFirstWrong, load_of}
use Rattle.elmore.specs.declared.problem.Problem.{Problem}
use Rattle.cand_pairs.specs.Candidates.{NodeLists}
use Rattle.vg_cert.specs.Fits.{lists_of}
use Rattle.vg_cert.specs.declared.certificate.Certificate.{Certificate}
use Rattle.vg_check.specs.Verdicts.{Finds, IsLastUncovered, IsVerdict, turn_of}
use Rattle.vg_check.specs.declared.verdict.Verdict.{Verdict}
use Rattle.vg_check.specs.declared.verdict.Verdict.TheVariants.{Yes, Illegal, WrongPolarity, WrongSlack, Uncovered, NotBest}
use Rattle.vg_check.proofs.VerdictLemmas.{one_bound, one_slack}

-- the first number at which something does not hold
first_alike : (P : ℕ → Type 0) (v w : ℕ) → (P v → ⊥) → ((u : ℕ) → u < v → P u) → (P w → ⊥) → ((u : ℕ) → u < w → P u) → v ≡ w
first_alike P v w not_v before_v not_w before_w = elim (cases_lt v w) [
  | inl less ↦ absurd (not_v (before_w v less))
  | inr more ↦ elim (cases_lt w v) [
    | inl less ↦ absurd (not_w (before_v w less))
    | inr less ↦ omega (arith, more, less)
  ]
]

unwanted : (p : Problem) (cells : List (Option ℕ)) (w : ℕ) → IsFirstWrong p cells w → HasPolarity p cells w → ⊥
unwanted p cells w is wanted = let (sink, there, other) = is.wrong in other (wanted sink there)

last_alike : (p : Problem) (lists : NodeLists) (v w : ℕ) → IsLastUncovered p lists v → IsLastUncovered p lists w → v ≡ w
last_alike p lists v w is js = elim (cases_lt v w) [
  | inl less ↦ absurd (js.uncovered (is.after w less js.live))
  | inr more ↦ elim (cases_lt w v) [
    | inl less ↦ absurd (is.uncovered (js.after v less is.live))
    | inr less ↦ omega (arith, more, less)
  ]
]

module _ (p : Problem) (cert : Certificate) where
  abbrev cells : List (Option ℕ)
  cells = cert.placement.cells

  same_turn : (a b : Verdict) → turn_of a ≡ turn_of b → Finds p cert a → Finds p cert b → a ≡ b
  same_turn (Illegal v) (Illegal w) e x y =
      ap Illegal (first_alike (IsLegalAt p cells (load_of p cells)) v w x.1.illegal x.1.before y.1.illegal y.1.before)
  same_turn (Illegal v) (WrongPolarity w) e x y = absurd (omega (arith, e))
  same_turn (Illegal v) (WrongSlack c d) e x y = absurd (omega (arith, e))
  same_turn (Illegal v) (Uncovered w) e x y = absurd (omega (arith, e))
  same_turn (Illegal v) (NotBest c d) e x y = absurd (omega (arith, e))
  same_turn (Illegal v) Yes e x y = absurd (omega (arith, e))
  same_turn (WrongPolarity v) (Illegal w) e x y = absurd (omega (arith, e))
  same_turn (WrongPolarity v) (WrongPolarity w) e x y =
      ap WrongPolarity (first_alike (HasPolarity p cells) v w (unwanted p cells v x.1) x.1.before (unwanted p cells w y.1) y.1.before)
  same_turn (WrongPolarity v) (WrongSlack c d) e x y = absurd (omega (arith, e))
  same_turn (WrongPolarity v) (Uncovered w) e x y = absurd (omega (arith, e))
  same_turn (WrongPolarity v) (NotBest c d) e x y = absurd (omega (arith, e))
  same_turn (WrongPolarity v) Yes e x y = absurd (omega (arith, e))
  same_turn (WrongSlack a b) (Illegal w) e x y = absurd (omega (arith, e))
  same_turn (WrongSlack a b) (WrongPolarity w) e x y = absurd (omega (arith, e))
  same_turn (WrongSlack a b) (WrongSlack c d) e x y =
      let (x_e, x_is, x_other) = x in
      let (y_e, y_is, y_other) = y in
      let written : a ≡ c = cc (x_e, y_e) in
      let real : b ≡ d = one_slack p cells b d x_is y_is in
      λ i. WrongSlack (written i) (real i)
  same_turn (WrongSlack a b) (Uncovered w) e x y = absurd (omega (arith, e))
  same_turn (WrongSlack a b) (NotBest c d) e x y = absurd (omega (arith, e))
  same_turn (WrongSlack a b) Yes e x y = absurd (omega (arith, e))
  same_turn (Uncovered v) (Illegal w) e x y = absurd (omega (arith, e))
  same_turn (Uncovered v) (WrongPolarity w) e x y = absurd (omega (arith, e))
  same_turn (Uncovered v) (WrongSlack c d) e x y = absurd (omega (arith, e))
  same_turn (Uncovered v) (Uncovered w) e x y = ap Uncovered (last_alike p (lists_of cert) v w x y)
  same_turn (Uncovered v) (NotBest c d) e x y = absurd (omega (arith, e))
  same_turn (Uncovered v) Yes e x y = absurd (omega (arith, e))
  same_turn (NotBest a b) (Illegal w) e x y = absurd (omega (arith, e))
  same_turn (NotBest a b) (WrongPolarity w) e x y = absurd (omega (arith, e))
  same_turn (NotBest a b) (WrongSlack c d) e x y = absurd (omega (arith, e))
  same_turn (NotBest a b) (Uncovered w) e x y = absurd (omega (arith, e))
  same_turn (NotBest a b) (NotBest c d) e x y =
      let (x_e, x_is, x_over) = x in
      let (y_e, y_is, y_over) = y in
      let written : a ≡ c = sym x_e ∙ y_e in
      let bound : b ≡ d = one_bound p (lists_of cert) b d x_is y_is in
      λ i. NotBest (written i) (bound i)
  same_turn (NotBest a b) Yes e x y = absurd (omega (arith, e))
  same_turn Yes (Illegal w) e x y = absurd (omega (arith, e))
  same_turn Yes (WrongPolarity w) e x y = absurd (omega (arith, e))
  same_turn Yes (WrongSlack c d) e x y = absurd (omega (arith, e))
  same_turn Yes (Uncovered w) e x y = absurd (omega (arith, e))
  same_turn Yes (NotBest c d) e x y = absurd (omega (arith, e))
  same_turn Yes Yes e x y = refl

pub one_verdict : (p : Problem) (cert : Certificate) (a b : Verdict) → IsVerdict p cert a → IsVerdict p cert b → a ≡ b
one_verdict p cert a b is js = elim (cases_lt (turn_of a) (turn_of b)) [
  | inl less ↦ absurd (js.first a less is.found)
  | inr more ↦ elim (cases_lt (turn_of b) (turn_of a)) [
    | inl less ↦ absurd (is.first b less js.found)
    | inr less ↦ same_turn p cert a b (omega (arith, more, less)) is.found js.found
  ]
]
