-- How long the sequences are that calls leave.
use Rattle.std.proofs.Common.{◌≡◌, ℕ, suc, ◌+◌, List, [], ◌∷◌, length, map, refl, ap, arith, inl, inr, ℤ}
use Rattle.std.specs.Prelude.{int_lt}
use Rattle.std.proofs.lemmas.Bool.{cases_Bool}
use Rattle.cand_pool.specs.Candidates.{Candidate}
use Rattle.cand_pool.specs.Sequences.{kept, dropped, union, placed, comes_first}

-- each candidate is kept or dropped
pub parts_long : (best : ℤ) (xs : List Candidate) → length (kept best xs) + length (dropped best xs) ≡ length xs
parts_long best [] = refl
parts_long best (x ∷ xs) = elim (cases_Bool (int_lt best x.q)) [
  | inl t ↦ let h = parts_long x.q xs in rw t (omega (arith, h))
  | inr f ↦ let h = parts_long best xs in rw f (omega (arith, h))
]

placed_long : (x : Candidate) (after : List Candidate → List Candidate) (n : ℕ) → ((ys : List Candidate) → length (after ys) ≡ n + length ys) → (ys : List Candidate) → length (placed x after ys) ≡ suc n + length ys
placed_long x after n h [] = let k = h [] in omega (arith, k)
placed_long x after n h (y ∷ ys) = elim (cases_Bool (comes_first y x)) [
  | inl t ↦ let k = placed_long x after n h ys in rw t (omega (arith, k))
  | inr f ↦ let k = h (y ∷ ys) in rw f (omega (arith, k))
]

-- a union has the candidates of both lists
pub union_long : (xs ys : List Candidate) → length (union xs ys) ≡ length xs + length ys
union_long [] ys = omega arith
union_long (x ∷ xs) ys = placed_long x (union xs) (length xs) (union_long xs) ys

pub map_long : (f : Candidate → Candidate) (xs : List Candidate) → length (map f xs) ≡ length xs
map_long f [] = refl
map_long f (x ∷ xs) = ap (λ (n : ℕ). suc n) (map_long f xs)
