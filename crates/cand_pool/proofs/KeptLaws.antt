-- What is kept rises, is taken from the list, and covers it.
use Rattle.std.proofs.Common.{◌≡◌, ℕ, ◌≤◌, ◌⊎◌, List, [], ◌∷◌, refl, sym, subst, arith, inl, inr, ℤ}
use Rattle.std.specs.Prelude.{int_lt, ◌≤ℤ◌}
use Rattle.std.proofs.lemmas.Bool.{cases_Bool}
use Rattle.std.proofs.lemmas.Int.{ints}
use Rattle.cand_pool.specs.Candidates.{Candidate}
use Rattle.cand_pool.specs.Sequences.{kept}
use Rattle.cand_pool.specs.Laws.{IsCandidateOf, RisesOver, HeaviesFrom, Dominates}

pub kept_rises : (best : ℤ) (xs : List Candidate) → RisesOver best (kept best xs)
kept_rises best [] = tt
kept_rises best (x ∷ xs) = elim (cases_Bool (int_lt best x.q)) [ inl t ↦ rw t (t, kept_rises x.q xs) | inr f ↦ rw f (kept_rises best xs) ]

pub kept_taken : (best : ℤ) (xs : List Candidate) (z : Candidate) → IsCandidateOf (kept best xs) z → IsCandidateOf xs z
kept_taken best [] z m = m
kept_taken best (x ∷ xs) z m = elim (cases_Bool (int_lt best x.q)) [
  | inl t ↦ elim (let m' : (z ≡ x) ⊎ IsCandidateOf (kept x.q xs) z = rw t at m in m') [ inl e ↦ inl e | inr more ↦ inr (kept_taken x.q xs z more) ]
  | inr f ↦ inr (kept_taken best xs z (rw f at m))
]

heavier : (least : ℕ) (xs : List Candidate) (x : Candidate) → HeaviesFrom least xs → IsCandidateOf xs x → least ≤ x.c
heavier least [] x heavies m = absurd m
heavier least (y ∷ ys) x heavies (inl e) = subst (λ (k : Candidate). least ≤ k.c) (sym e) heavies.0
heavier least (y ∷ ys) x heavies (inr more) =
    let a : least ≤ y.c = heavies.0 in let b : y.c ≤ x.c = heavier y.c ys x heavies.1 more in omega arith

pub kept_covers : (least : ℕ) (xs : List Candidate) → HeaviesFrom least xs → (best : ℤ) (x : Candidate) → IsCandidateOf xs x → (x.q ≤ℤ best) ⊎ ((z : Candidate) × IsCandidateOf (kept best xs) z × Dominates z x)
kept_covers least [] heavies best x m = absurd m
kept_covers least (y ∷ ys) heavies best x (inl e) = elim (cases_Bool (int_lt best y.q)) [
  | inl t ↦ inr (rw t (y, inl refl, record { slower = subst (λ (k : Candidate). k.q ≤ℤ y.q) (sym e) (omega (arith, ints)); lighter = subst (λ (k : Candidate). y.c ≤ k.c) (sym e) (omega arith) }))
  | inr f ↦ inl (subst (λ (k : Candidate). k.q ≤ℤ best) (sym e) (omega (arith, ints, f)))
]
kept_covers least (y ∷ ys) heavies best x (inr more) = elim (cases_Bool (int_lt best y.q)) [
  | inl t ↦ elim (kept_covers y.c ys heavies.1 y.q x more) [
    | inl low ↦ let heavy : y.c ≤ x.c = heavier y.c ys x heavies.1 more in inr (rw t (y, inl refl, record { slower = low; lighter = heavy }))
    | inr found ↦ let (z, z_in, dom) = found in inr (rw t (z, inr z_in, dom))
  ]
  | inr f ↦ rw f (kept_covers y.c ys heavies.1 best x more)
]
