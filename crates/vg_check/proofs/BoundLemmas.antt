-- The greatest of what the pairs at the root are worth, found one pair after another.
use Rattle.std.proofs.Common.{◌≡◌, ◌⊎◌, List, [], ◌∷◌, ◌++◌, sym, ap, ◌∙◌, subst, arith, inl, inr, ℤ, pos, ◌+ℤ◌, ◌-ℤ◌, ◌*◌, ◌≤ℤ◌, int_lt, Option, Some, None}
use Rattle.std.proofs.lemmas.Int.{ints, clamps}
use Rattle.std.proofs.lemmas.List.Elements.{Contains-push_cases, Contains-push, Contains-append_left}
use Rattle.std.proofs.lemmas.Bool.{cases_Bool}
use Rattle.std.specs.Int.{int_max}
use Rattle.std.specs.List.{Contains}
use Rattle.elmore.specs.declared.pair.Pair.{Pair}
use Rattle.elmore.specs.declared.problem.Problem.{Problem}
use Rattle.cand_pairs.specs.Candidates.{Drives, DrivesNone, root_value}
use Rattle.vg_check.specs.Verdicts.{IsRootBound, IsBoundOf}

-- a pair that the driver may not charge
pub bound_skips : (p : Problem) (seen : List Pair) (x : Pair) (found : Option ℤ) → (Drives p x → ⊥) → IsBoundOf p seen found
    → IsBoundOf p (seen ++ x ∷ []) found
bound_skips p seen x None not_x none = λ y y_in drives. elim (Contains-push_cases seen x y y_in) [
  | inl old ↦ none y old drives
  | inr new ↦ not_x (subst (Drives p) (sym new) drives)
]
bound_skips p seen x (Some most) not_x is = record {
  bound = λ y y_in drives. elim (Contains-push_cases seen x y y_in) [
    | inl old ↦ is.bound y old drives
    | inr new ↦ absurd (not_x (subst (Drives p) (sym new) drives))
  ];
  met = let (y, y_in, drives, most_is) = is.met in (y, Contains-append_left seen (x ∷ []) y y_in, drives, most_is);
}

-- the first one that it may
pub bound_first : (p : Problem) (seen : List Pair) (x : Pair) (value : ℤ) → Drives p x
    → value ≡ x.q -ℤ (p.driver.k +ℤ pos (p.driver.r * x.c)) -ℤ p.driver.arrival → DrivesNone p (Contains seen)
    → IsRootBound p (Contains (seen ++ x ∷ [])) value
bound_first p seen x value drives value_is none = record {
  bound = λ y y_in y_drives. elim (Contains-push_cases seen x y y_in) [
    | inl old ↦ absurd (none y old y_drives)
    | inr new ↦ omega (arith, ints, value_is, ap (root_value p) new)
  ];
  met = (x, Contains-push seen x, drives, omega (arith, ints, value_is));
}

-- and one more
pub bound_more : (p : Problem) (seen : List Pair) (x : Pair) (most value now : ℤ) → Drives p x
    → value ≡ x.q -ℤ (p.driver.k +ℤ pos (p.driver.r * x.c)) -ℤ p.driver.arrival
    → ((now ≡ most) × (value ≤ℤ most)) ⊎ ((now ≡ value) × (most ≤ℤ value)) → IsRootBound p (Contains seen) most
    → IsRootBound p (Contains (seen ++ x ∷ [])) now
bound_more p seen x most value now drives value_is now_is is = record {
  bound = λ y y_in y_drives. elim (Contains-push_cases seen x y y_in) [
    | inl old ↦ elim now_is [
      | inl (same, low) ↦ omega (arith, ints, same, is.bound y old y_drives)
      | inr (same, low) ↦ omega (arith, ints, same, low, is.bound y old y_drives)
    ]
    | inr new ↦ elim now_is [
      | inl (same, low) ↦ omega (arith, ints, same, low, value_is, ap (root_value p) new)
      | inr (same, low) ↦ omega (arith, ints, same, value_is, ap (root_value p) new)
    ]
  ];
  met = elim now_is [
    | inl (same, low) ↦ let (y, y_in, y_drives, most_is) = is.met in (y, Contains-append_left seen (x ∷ []) y y_in, y_drives, same ∙ most_is)
    | inr (same, low) ↦ (x, Contains-push seen x, drives, omega (arith, ints, same, value_is))
  ];
}

pub larger : (most value now : ℤ) → now ≡ int_max most value → ((now ≡ most) × (value ≤ℤ most)) ⊎ ((now ≡ value) × (most ≤ℤ value))
larger most value now is = elim (cases_Bool (int_lt most value)) [
  | inl less ↦ inr (omega (arith, ints, clamps, is), omega (arith, ints))
  | inr more ↦ inl (omega (arith, ints, clamps, is), omega (arith, ints))
]
