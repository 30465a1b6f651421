-- The greatest input capacitance, and bounds on all that can be a load.
use Rattle.std.proofs.Common.{◌≡◌, ℕ, zero, suc, ◌+◌, ◌<◌, ◌≤◌, List, [], ◌∷◌, Option, refl, sym, ap, ◌∙◌, arith, length, get_or, take, max, add-one}
use Rattle.std.proofs.lemmas.List.{take_all}
use Rattle.std.specs.List.{sum_by}
use Rattle.elmore.specs.Cells.{rep_of, cell_cost}
use Rattle.elmore.specs.Problems.{greatest_input}
use Rattle.elmore.specs.Placements.{cost_of}
use Rattle.elmore.specs.declared.problem.Problem.{Problem}
use Rattle.elmore.specs.declared.rep.Rep.{Rep}

max_later : (a b c : ℕ) → max a (max b c) ≡ max b (max a c)
max_later a b c = omega arith

-- one more repeater
pub greatest_more : (reps : List Rep) (i : ℕ) (d : Rep) → i < length reps
    → greatest_input (take (i + 1) reps) ≡ max (get_or reps i d).cin (greatest_input (take i reps))
greatest_more [] i d h = absurd (omega arith)
greatest_more (rep ∷ reps) zero d h = refl
greatest_more (rep ∷ reps) (suc i) d h =
    (let next : suc i + 1 ≡ suc (suc i) = omega arith in ap (λ (k : ℕ). greatest_input (take k (rep ∷ reps))) next)
    ∙ ap (max rep.cin) (ap (λ (k : ℕ). greatest_input (take k reps)) (sym (add-one i)) ∙ greatest_more reps i d (omega arith))
    ∙ max_later rep.cin (get_or reps i d).cin (greatest_input (take i reps))

-- the cost of all cells, where the code has added each
pub cost_of_all : (p : Problem) (cells items : List (Option ℕ)) (reps : List Rep) (i : ℕ) → reps ≡ p.reps → items ≡ cells → length items ≤ i
    → sum_by (λ cell. cell_cost (rep_of reps cell)) (take i items) ≡ cost_of p cells
unfolding cost_of
cost_of_all p cells items reps i of_p of_cells all =
    rw (take_all i items all, of_p, of_cells) refl
