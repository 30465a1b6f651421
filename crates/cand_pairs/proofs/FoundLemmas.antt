-- The greatest pair of a list, found one pair after another.
use Rattle.std.proofs.Common.{◌≡◌, ◌⊎◌, List, [], ◌∷◌, ◌++◌, ap, ◌∙◌, arith, inl, inr, ◌≤ℤ◌, Some}
use Rattle.std.proofs.lemmas.Int.{ints}
use Rattle.std.proofs.lemmas.List.Elements.{Contains-push_cases, Contains-push, Contains-append_left}
use Rattle.elmore.specs.Legal.{IsWithin}
use Rattle.cand_pairs.specs.Candidates.{with_cell}
use Rattle.cand_pairs.specs.Merging.{NoneFits, IsGreatestBy}
use Rattle.elmore.specs.declared.rep.Rep.{Rep}
use Rattle.elmore.specs.declared.pair.Pair.{Pair}

-- the first pair that is within it
pub found_first : (rep : Rep) (seen : List Pair) (x z : Pair) → IsWithin rep.limit x.c → z ≡ with_cell (Some rep) x → NoneFits rep seen
    → IsGreatestBy rep (seen ++ x ∷ []) z
found_first rep seen x z fits z_is none = record {
  made = (x, Contains-push seen x, fits, z_is);
  most = λ y y_in y_fits.
      elim (Contains-push_cases seen x y y_in) [
        | inl old ↦ absurd (none y old y_fits)
        | inr new ↦ omega (arith, ints, ap (λ (t : Pair). (with_cell (Some rep) t).q) new, ap (λ (t : Pair). t.q) z_is)
      ];
}

-- and one more
pub found_more : (rep : Rep) (seen : List Pair) (x z best made : Pair) → IsWithin rep.limit x.c → made ≡ with_cell (Some rep) x
    → ((z ≡ best) × (made.q ≤ℤ best.q)) ⊎ ((z ≡ made) × (best.q ≤ℤ made.q)) → IsGreatestBy rep seen best → IsGreatestBy rep (seen ++ x ∷ []) z
found_more rep seen x z best made fits made_is z_is is = elim z_is [
  | inl (same, low) ↦ record {
    made = let (y, y_in, y_fits, best_is) = is.made in (y, Contains-append_left seen (x ∷ []) y y_in, y_fits, same ∙ best_is);
    most = λ y y_in y_fits.
        elim (Contains-push_cases seen x y y_in) [
          | inl old ↦ omega (arith, ints, is.most y old y_fits, ap (λ (t : Pair). t.q) same)
          | inr new ↦
              omega (arith, ints, low, ap (λ (t : Pair). t.q) same, ap (λ (t : Pair). (with_cell (Some rep) t).q) new, ap (λ (t : Pair). t.q) made_is)
        ];
  }
  | inr (same, low) ↦ record {
    made = (x, Contains-push seen x, fits, same ∙ made_is);
    most = λ y y_in y_fits.
        elim (Contains-push_cases seen x y y_in) [
          | inl old ↦ omega (arith, ints, is.most y old y_fits, low, ap (λ (t : Pair). t.q) same)
          | inr new ↦ omega (arith, ints, ap (λ (t : Pair). t.q) same, ap (λ (t : Pair). (with_cell (Some rep) t).q) new, ap (λ (t : Pair). t.q) made_is)
        ];
  }
]
