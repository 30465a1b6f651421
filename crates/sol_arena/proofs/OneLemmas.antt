-- Tests as ones and zeros.
use Rattle.std.proofs.Common.{◌≡◌, ◌⊎◌, ℕ, zero, suc, ◌==◌, List, ◌∷◌, ap, arith, inl, inr, eq-eqb, ne_eqb}
use Rattle.std.specs.List.{Contains}
use Rattle.sol_arena.specs.Uses.{one_if}

pub one_same : (a b : ℕ) → a ≡ b → one_if (a == b) ≡ 1
one_same a b e = ap one_if (eq-eqb a b e)

pub one_other : (a b : ℕ) → (a ≡ b → ⊥) → one_if (a == b) ≡ 0
one_other a b other = ap one_if (ne_eqb a b other)

pub in_rest : (y : ℕ) (xs : List ℕ) (x : ℕ) → Contains xs x → Contains (y ∷ xs) x
in_rest y xs x (k, k_n, e) = (suc k, omega arith, e)

pub in_cases : (y : ℕ) (xs : List ℕ) (x : ℕ) → Contains (y ∷ xs) x → (y ≡ x) ⊎ Contains xs x
in_cases y xs x (zero, k_n, e) = inl e
in_cases y xs x (suc k, k_n, e) = inr (k, omega arith, e)
