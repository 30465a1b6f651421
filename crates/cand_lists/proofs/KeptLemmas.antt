-- What is kept and dropped is the whole list: no use is lost, and no candidate.
use Rattle.std.proofs.Common.{◌≡◌, ℕ, ◌+◌, [], ◌∷◌, map, length, refl, arith, inl, inr, ℤ}
use Rattle.std.specs.Prelude.{int_lt}
use Rattle.std.proofs.lemmas.Bool.{cases_Bool}
use Rattle.cand_pool.specs.Candidates.{Candidate, Candidates, loaded, wired_to}
use Rattle.cand_pool.specs.Sequences.{kept, dropped, union, placed, comes_first}
use Rattle.cand_uses.specs.Uses.{uses_by}
use Rattle.cand_uses.proofs.ExchangeLemmas.{uses_of_one}

pub kept_uses : (best : ℤ) (xs : Candidates) (s : ℕ) → uses_by (kept best xs) s + uses_by (dropped best xs) s ≡ uses_by xs s
kept_uses best [] s = refl
kept_uses best (x ∷ xs) s = elim (cases_Bool (int_lt best x.q)) [
  | inl t ↦ rw t (omega (arith, uses_of_one x (kept x.q xs) s, uses_of_one x xs s, kept_uses x.q xs s))
  | inr f ↦ rw f (omega (arith, uses_of_one x (dropped best xs) s, uses_of_one x xs s, kept_uses best xs s))
]

pub kept_length : (best : ℤ) (xs : Candidates) → length (kept best xs) + length (dropped best xs) ≡ length xs
kept_length best [] = refl
kept_length best (x ∷ xs) = elim (cases_Bool (int_lt best x.q)) [
  | inl t ↦ rw t (omega (arith, kept_length x.q xs))
  | inr f ↦ rw f (omega (arith, kept_length best xs))
]

-- a wire leaves each solution, and so does a load
pub wired_uses : (r c : ℕ) (xs : Candidates) (s : ℕ) → uses_by (map (wired_to r c) xs) s ≡ uses_by xs s
wired_uses r c [] s = refl
wired_uses r c (x ∷ xs) s = omega (arith, uses_of_one (wired_to r c x) (map (wired_to r c) xs) s, uses_of_one x xs s, wired_uses r c xs s)

pub loaded_uses : (c : ℕ) (xs : Candidates) (s : ℕ) → uses_by (map (loaded c) xs) s ≡ uses_by xs s
loaded_uses c [] s = refl
loaded_uses c (x ∷ xs) s = omega (arith, uses_of_one (loaded c x) (map (loaded c) xs) s, uses_of_one x xs s, loaded_uses c xs s)

-- a union has the uses and the number of both
placed_uses : (x : Candidate) (xs : Candidates) (s : ℕ) → ((ys : Candidates) → uses_by (union xs ys) s ≡ uses_by xs s + uses_by ys s) → (ys : Candidates)
    → uses_by (placed x (union xs) ys) s ≡ uses_by (x ∷ xs) s + uses_by ys s
placed_uses x xs s more [] = omega (arith, uses_of_one x (union xs []) s, uses_of_one x xs s, more [])
placed_uses x xs s more (y ∷ ys) = elim (cases_Bool (comes_first y x)) [
  | inl t ↦ rw t (omega (arith, uses_of_one y (placed x (union xs) ys) s, uses_of_one y ys s, placed_uses x xs s more ys))
  | inr f ↦ rw f (omega (arith, uses_of_one x (union xs (y ∷ ys)) s, uses_of_one x xs s, more (y ∷ ys)))
]

pub union_uses : (xs ys : Candidates) (s : ℕ) → uses_by (union xs ys) s ≡ uses_by xs s + uses_by ys s
union_uses [] ys s = omega arith
union_uses (x ∷ xs) ys s = placed_uses x xs s (λ zs. union_uses xs zs s) ys

placed_length : (x : Candidate) (xs : Candidates) → ((ys : Candidates) → length (union xs ys) ≡ length xs + length ys) → (ys : Candidates)
    → length (placed x (union xs) ys) ≡ length (x ∷ xs) + length ys
placed_length x xs more [] = omega (arith, more [])
placed_length x xs more (y ∷ ys) = elim (cases_Bool (comes_first y x)) [
  | inl t ↦ rw t (omega (arith, placed_length x xs more ys))
  | inr f ↦ rw f (omega (arith, more (y ∷ ys)))
]

pub union_length : (xs ys : Candidates) → length (union xs ys) ≡ length xs + length ys
union_length [] ys = omega arith
union_length (x ∷ xs) ys = placed_length x xs (λ zs. union_length xs zs) ys
