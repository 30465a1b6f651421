-- What the cells of a placement come to together.
use Rattle.std.proofs.Common.{◌≡◌, ℕ, zero, suc, ◌*◌, ◌≤◌, Bool, true, false, List, [], ◌∷◌, refl, ap, cond, arith, Option, None, Some}
use Rattle.std.proofs.lemmas.Bool.{false≢true}
use Rattle.std.proofs.lemmas.List.{get_or_past}
use Rattle.std.proofs.lemmas.List.Sums.{sum_by-cons}
use Rattle.std.specs.List.{sum_by}
use Rattle.elmore.specs.Cells.{rep_at, rep_of, input_capacitance}
use Rattle.elmore.specs.Problems.{greatest_input, place_count}
use Rattle.elmore.specs.Legal.{IsPlacedAt}
use Rattle.elmore.specs.declared.rep.Rep.{Rep}

pub input_le : (reps : List Rep) (b : ℕ) → (rep_at reps b).cin ≤ greatest_input reps
input_le [] b = omega (arith, ap {B = ℕ} (λ (rep : Rep). rep.cin) (get_or_past [] b (record { inverts = false; cin = 0; k = 0; r = 0; cost = 0; limit = None }) (omega arith)))
input_le (rep ∷ reps) zero = omega arith
input_le (rep ∷ reps) (suc b) = omega (arith, input_le reps b)

input_at : (reps : List Rep) (cell : Option ℕ) (place : Bool) → ((b : ℕ) → cell ≡ Some b → place ≡ true)
    → input_capacitance (rep_of reps cell) ≤ cond place 1 0 * greatest_input reps
input_at reps None place placed = omega arith
input_at reps (Some b) true placed = omega (arith, input_le reps b)
input_at reps (Some b) false placed = absurd (false≢true (placed b refl))

pub inputs_le : (reps : List Rep) (cells : List (Option ℕ)) (places : List Bool) → ((v : ℕ) → IsPlacedAt places cells v)
    → sum_by (λ cell. input_capacitance (rep_of reps cell)) cells ≤ place_count places * greatest_input reps
inputs_le reps [] places placed = omega arith
inputs_le reps (None ∷ cells) [] placed =
    omega (
      arith,
      sum_by-cons (λ (cell : Option ℕ). input_capacitance (rep_of reps cell)) None cells,
      inputs_le reps cells [] (λ v b here. placed (suc v) b here),
    )
inputs_le reps (Some b ∷ cells) [] placed = absurd (false≢true (placed 0 b refl))
inputs_le reps (cell ∷ cells) (place ∷ places) placed =
    omega (
      arith,
      sum_by-cons (λ (c : Option ℕ). input_capacitance (rep_of reps c)) cell cells,
      ap (λ (k : ℕ). k * greatest_input reps) (sum_by-cons (λ (p : Bool). cond p 1 0) place places),
      input_at reps cell place (placed 0),
      inputs_le reps cells places (λ v b here. placed (suc v) b here),
    )
