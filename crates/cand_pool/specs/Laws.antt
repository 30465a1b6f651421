-- What is kept is the undominated list, and a union has what both lists have, in the words of the subject.
use Rattle.std.specs.Prelude.{◌≡◌, ℕ, ◌<◌, ◌≤◌, ◌⊎◌, true, List, [], ◌∷◌, ℤ, ◌≤ℤ◌, int_lt}
use Rattle.cand_pool.specs.Candidates.{Candidate, Candidates}
use Rattle.cand_pool.specs.Sequences.{kept, lowest, undominated, union}

abbrev pub IsCandidateOf : List Candidate → Candidate → Type 0
IsCandidateOf [] x = ⊥
IsCandidateOf (y ∷ ys) x = (x ≡ y) ⊎ IsCandidateOf ys x

-- x has no less time and no more load than y
pub record Dominates (x y : Candidate) : Type 0 where
  pub slower : y.q ≤ℤ x.q
  pub lighter : x.c ≤ y.c

-- each q is over `best` and over those before it
abbrev pub RisesOver : ℤ → List Candidate → Type 0
RisesOver best [] = Unit {0}
RisesOver best (x ∷ xs) = (int_lt best x.q ≡ true) × RisesOver x.q xs

-- q rises
abbrev pub RisesInTime : List Candidate → Type 0
RisesInTime [] = Unit {0}
RisesInTime (x ∷ xs) = RisesOver x.q xs

-- c never falls
abbrev pub HeaviesFrom : ℕ → List Candidate → Type 0
HeaviesFrom least [] = Unit {0}
HeaviesFrom least (x ∷ xs) = (least ≤ x.c) × HeaviesFrom x.c xs

-- of a list in order of c, each candidate whose q is over `best` is dominated by one that is kept
abbrev pub KeptCovers : Type 0
KeptCovers = (least : ℕ) (xs : List Candidate) → HeaviesFrom least xs → (best : ℤ) (x : Candidate) → IsCandidateOf xs x
    → (x.q ≤ℤ best) ⊎ ((z : Candidate) × IsCandidateOf (kept best xs) z × Dominates z x)

-- what is kept rises in q
abbrev pub KeptRises : Type 0
KeptRises = (best : ℤ) (xs : List Candidate) → RisesOver best (kept best xs)

-- what is kept is of the list
abbrev pub KeptTaken : Type 0
KeptTaken = (best : ℤ) (xs : List Candidate) (z : Candidate) → IsCandidateOf (kept best xs) z → IsCandidateOf xs z

abbrev pub IsOfEither : List Candidate → List Candidate → Candidate → Type 0
IsOfEither xs ys x = IsCandidateOf xs x ⊎ IsCandidateOf ys x

-- the union of two lists in order of c is in order of c
abbrev pub UnionKeepsOrder : Type 0
UnionKeepsOrder =
    (least : ℕ) (xs ys : List Candidate) → HeaviesFrom least xs → HeaviesFrom least ys → HeaviesFrom least (union xs ys)

-- it has just the candidates of both
abbrev pub UnionTaken : Type 0
UnionTaken = (xs ys : List Candidate) (x : Candidate) → IsCandidateOf (union xs ys) x → IsOfEither xs ys x

abbrev pub UnionHasAll : Type 0
UnionHasAll = (xs ys : List Candidate) (x : Candidate) → IsOfEither xs ys x → IsCandidateOf (union xs ys) x

-- of the candidates of two lists, these are undominated: they rise in q, do not fall in c, are of the two,
-- and each candidate of the two whose q is over the lowest is dominated by one of them
pub record IsUndominatedOf (xs ys zs : Candidates) : Type 0 where
  pub rises : RisesOver lowest zs
  pub heavies : HeaviesFrom 0 zs
  pub taken : (z : Candidate) → IsCandidateOf zs z → IsOfEither xs ys z
  pub covers : (x : Candidate) → IsOfEither xs ys x
      → (x.q ≤ℤ lowest) ⊎ ((z : Candidate) × IsCandidateOf zs z × Dominates z x)

abbrev pub UnionIsUndominated : Type 0
UnionIsUndominated =
    (xs ys : Candidates) → HeaviesFrom 0 xs → HeaviesFrom 0 ys → IsUndominatedOf xs ys (undominated (union xs ys))

-- after w come greater c, and of equal c lesser q
abbrev pub InOrderAfter : Candidate → List Candidate → Type 0
InOrderAfter w [] = Unit {0}
InOrderAfter w (x ∷ xs) = (w.c ≤ x.c) × (w.c ≡ x.c → x.q ≤ℤ w.q) × InOrderAfter x xs

abbrev pub IsInOrder : List Candidate → Type 0
IsInOrder [] = Unit {0}
IsInOrder (x ∷ xs) = InOrderAfter x xs

-- c rises
abbrev pub HeavierThan : ℕ → List Candidate → Type 0
HeavierThan c [] = Unit {0}
HeavierThan c (x ∷ xs) = (c < x.c) × HeavierThan x.c xs

abbrev pub RisesInLoad : List Candidate → Type 0
RisesInLoad [] = Unit {0}
RisesInLoad (x ∷ xs) = HeavierThan x.c xs

-- of two lists in order of c, of equal c by falling q, what stays of the union rises in c, so no one of it dominates
-- another
abbrev pub UnionRises : Type 0
UnionRises = (xs ys : Candidates) → IsInOrder xs → IsInOrder ys → RisesInLoad (undominated (union xs ys))
