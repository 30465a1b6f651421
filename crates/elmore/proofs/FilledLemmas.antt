-- A list that is filled from the left, each element by a function of its number.
use Rattle.std.proofs.Common.{◌≡◌, ℕ, ◌+◌, ◌<◌, List, ◌∙◌, arith, inl, inr, length, get_or, set, slice_index_or, ℤ, pos, to_z, of_z, ◌≤◌, ◌^◌}
use Rattle.std.proofs.lemmas.Bool.{cases_eq}
use Rattle.std.proofs.lemmas.List.{get_or-set_same, get_or-set_other}
use Rattle.std.proofs.lemmas.Int.{ints}
use mir.Syntax.{w128}
use Rattle.elmore.proofs.FitLemmas.{whole}

pub record AreFilled {X : Type 0} (f : ℕ → X) (d : X) (n : ℕ) (xs : List X) : Type 0 where
  pub each : (k : ℕ) → k < n → get_or xs k d ≡ f k

pub filled_more : {X : Type 0} (f : ℕ → X) (d : X) (xs : List X) (v : ℕ) (x : X) → v < length xs → x ≡ f v
    → AreFilled f d v xs → AreFilled f d (v + 1) (set xs v x)
filled_more f d xs v x room here before = record {
  each = λ k low.
      elim (cases_eq k v) [
        | inl e ↦ rw e (get_or-set_same xs v x d room ∙ here)
        | inr other ↦ get_or-set_other xs v k x d other ∙ before.each k (omega arith)
      ];
}

pub filled_first : {X : Type 0} (f : ℕ → X) (d : X) (xs : List X) (x : X) → 0 < length xs → x ≡ f 0 → AreFilled f d 1 (set xs 0 x)
filled_first f d xs x room here = filled_more f d xs 0 x room here (record { each = λ k none. absurd (omega arith) })

-- a list whose elements by g are replaced, from the left, by those of f
pub record AreReplaced {X : Type 0} (f g : ℕ → X) (d : X) (v n : ℕ) (xs : List X) : Type 0 where
  pub done : AreFilled f d v xs
  pub rest : (k : ℕ) → v ≤ k → k < n → get_or xs k d ≡ g k

pub replaced_more : {X : Type 0} (f g : ℕ → X) (d : X) (xs : List X) (v n : ℕ) (x : X) → v < length xs → x ≡ f v
    → AreReplaced f g d v n xs → AreReplaced f g d (v + 1) n (set xs v x)
replaced_more f g d xs v n x room here before = record {
  done = filled_more f d xs v x room here before.done;
  rest = λ k past k_n. get_or-set_other xs v k x d (λ e. omega arith) ∙ before.rest k (omega arith) k_n;
}

pub replaced_first : {X : Type 0} (f g : ℕ → X) (d : X) (xs : List X) (n : ℕ) (x : X) → 0 < length xs → x ≡ f 0
    → ((k : ℕ) → k < n → get_or xs k d ≡ g k) → AreReplaced f g d 1 n (set xs 0 x)
replaced_first f g d xs n x room here before =
    replaced_more f g d xs 0 n x room here (record { done = record { each = λ k none. absurd (omega arith) }; rest = λ k _ k_n. before k k_n })

-- the time that was filled in at p reads as it was written
pub filled_time : (f : ℕ → ℕ) (times : List ℤ) (v p i : ℕ) → i ≡ p → p < v → f p ≤ 10 ^ 25 → AreFilled (λ k. pos (f k)) (pos 0) v times
    → to_z w128 (of_z w128 (slice_index_or times i (pos 0))) ≡ pos (f p)
filled_time f times v p i is low small before =
    rw (is, before.each p low) (whole (pos (f p)) (omega (arith, ints)) (omega (arith, ints)))
