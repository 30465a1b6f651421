-- A choice for each number as a function.
use Rattle.std.proofs.Common.{◌⊎◌, ℕ, ◌<◌, ◌≤◌, arith, inl, inr}
use Rattle.std.proofs.lemmas.Bool.{cases_lt}

-- what is there for each number below m is there as a function
pub chosen : {X : Type 0} (m : ℕ) (P : ℕ → X → Type 0) → X → ((x : ℕ) → x < m → (y : X) × P x y)
    → (f : ℕ → X) × ((x : ℕ) → x < m → P x (f x))
chosen {X} m P none each = (λ x. pick x (cases_lt x m), λ x x_m. picked x x_m (cases_lt x m))
  where
    pick : (x : ℕ) → (x < m) ⊎ (m ≤ x) → X
    pick x (inl low) = (each x low).0
    pick x (inr past) = none

    picked : (x : ℕ) → x < m → (c : (x < m) ⊎ (m ≤ x)) → P x (pick x c)
    picked x x_m (inl low) = (each x low).1
    picked x x_m (inr past) = absurd (omega arith)
