-- Which repeaters nodes allow, and what legal placements have in common.
use Rattle.std.proofs.Common.{◌≡◌, ℕ, List, Option, sym, ◌∙◌, inl, inr, replicate, arith}
use Rattle.std.proofs.lemmas.Bool.{cases_lt}
use Rattle.std.proofs.lemmas.List.{get_or_past}
use Rattle.std.proofs.Math.ListN.{get_or-replicate, length-replicate}
use Rattle.elmore.specs.Allowances.{allowed_at, all_allowed, AreAllowances}
use Rattle.elmore.specs.Legal.{IsPlaced, IsLegalBy}
use Rattle.elmore.specs.declared.allowed.Allowed.TheVariants.{All, Only}
use Rattle.elmore.specs.declared.problem.Problem.{Problem}

-- a legal placement has cells only at places
pub legal_placed : (p : Problem) (cells : List (Option ℕ)) (load : ℕ → ℕ) → IsLegalBy p cells load → IsPlaced p cells
legal_placed p cells load legal v b here = ((legal v).cell b here).at_place

-- where all is allowed, no numbers are
pub all_are_allowed : (n v : ℕ) → allowed_at (all_allowed n) v ≡ All
all_are_allowed n v =
    elim (cases_lt v n) [
      | inl low ↦ get_or-replicate n v All All low
      | inr past ↦ get_or_past (replicate n All) v All (omega (arith, length-replicate n All))
    ]

pub all_allowances : (n reps : ℕ) → AreAllowances n reps (all_allowed n)
all_allowances n reps = record {
  one_each = length-replicate n All;
  rising = λ v numbers is. absurd (clash v numbers is);
  named = λ v numbers is b among. absurd (clash v numbers is);
}
  where
    clash : (v : ℕ) (numbers : List ℕ) → allowed_at (all_allowed n) v ≡ Only numbers → ⊥
    clash v numbers is = let other : All ≡ Only numbers = sym (all_are_allowed n v) ∙ is in absurd (cc)
