-- What the calls do to sequences of candidates.
use Rattle.std.specs.Prelude.{ℕ, suc, Option, None, Some, Bool, cond, ltb, eqb, ◌||◌, ◌&&◌, List, [], ◌∷◌, ℤ, negsuc, int_lt}
use Rattle.cand_pool.specs.Candidates.{Candidate, Candidates}

-- the number below each q
abbrev pub lowest : ℤ
lowest = negsuc 170141183460469231731687303715884105727

-- those whose q is over `best` and over the q of each before it
abbrev pub kept : ℤ → List Candidate → Candidates
kept best [] = []
kept best (x ∷ xs) = cond (int_lt best x.q) (x ∷ kept x.q xs) (kept best xs)

-- the others
abbrev pub dropped : ℤ → List Candidate → Candidates
dropped best [] = []
dropped best (x ∷ xs) = cond (int_lt best x.q) (dropped x.q xs) (x ∷ dropped best xs)

-- of a list in order of c, those that no other one dominates; of equal pairs the first
abbrev pub undominated : Candidates → Candidates
undominated xs = kept lowest xs

abbrev pub dominated : Candidates → Candidates
dominated xs = dropped lowest xs

-- of lesser c first, of equal c that of greater q, and of equal pairs the one of the first list
abbrev pub comes_first : Candidate → Candidate → Bool
comes_first y x = ltb y.c x.c || (eqb y.c x.c && int_lt x.q y.q)

-- first those of the list that come before x, then x, and then what `after` makes of the others
abbrev pub placed : Candidate → (List Candidate → List Candidate) → List Candidate → Candidates
placed x after [] = x ∷ after []
placed x after (y ∷ ys) = cond (comes_first y x) (y ∷ placed x after ys) (x ∷ after (y ∷ ys))

-- both lists as one, in order of c
abbrev pub union : List Candidate → List Candidate → Candidates
union [] ys = ys
union (x ∷ xs) ys = placed x (union xs) ys

-- where x, before xs, meets y: what is left of x's list
abbrev pub left_of : Candidate → Candidate → Candidates → Candidates
left_of x y xs = cond (int_lt y.q x.q) (x ∷ xs) xs

-- the tag that is taken from x's list
abbrev pub taken_of : Candidate → Candidate → Option ℕ
taken_of x y = cond (int_lt y.q x.q) None (Some x.tag)

-- how many slots are spare when two candidates were joined
abbrev pub spare_after : Candidate → Candidate → ℕ → ℕ
spare_after x y n = cond (int_lt y.q x.q || int_lt x.q y.q) n (suc n)
