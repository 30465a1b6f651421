-- A union is in order of c and has the candidates of both lists, so what is kept of it is undominated.
use Rattle.std.proofs.Common.{◌≡◌, ℕ, ◌≤◌, ◌⊎◌, true, false, List, [], ◌∷◌, arith, inl, inr, ℤ}
use Rattle.std.specs.Prelude.{ltb, eqb, int_lt, ◌≤ℤ◌}
use Rattle.std.proofs.lemmas.Bool.{cases_Bool}
use Rattle.cand_pool.specs.Candidates.{Candidate, Candidates}
use Rattle.cand_pool.specs.Sequences.{kept, lowest, undominated, union, comes_first}
use Rattle.cand_pool.specs.Laws.{IsCandidateOf, HeaviesFrom, IsOfEither, IsUndominatedOf, InOrderAfter, IsInOrder, HeavierThan, RisesInLoad}
use Rattle.std.proofs.lemmas.Int.{ints}
use Rattle.cand_pool.proofs.MoveLaws.{is_same}
use Rattle.cand_pool.proofs.KeptLaws.{kept_rises, kept_taken, kept_covers}

-- what comes first is no heavier
first_light : (y x : Candidate) → comes_first y x ≡ true → y.c ≤ x.c
first_light y x e = elim (cases_Bool (ltb y.c x.c)) [
  | inl t ↦ grind (arith, t)
  | inr f ↦ elim (cases_Bool (eqb y.c x.c)) [
    | inl same ↦ grind (arith, same)
    | inr other ↦ let no : false ≡ true = rw (f, other) at e in absurd (cc)
  ]
]

second_heavy : (y x : Candidate) → comes_first y x ≡ false → x.c ≤ y.c
second_heavy y x e = elim (cases_Bool (ltb y.c x.c)) [
  | inl t ↦ let no : true ≡ false = rw t at e in absurd (cc)
  | inr f ↦ grind (arith, f)
]

pub union_heavies : (least : ℕ) (xs ys : List Candidate) → HeaviesFrom least xs → HeaviesFrom least ys → HeaviesFrom least (union xs ys)
union_heavies least [] ys one two = two
union_heavies least (x ∷ xs) [] one two = (one.0, union_heavies x.c xs [] one.1 tt)
union_heavies least (x ∷ xs) (y ∷ ys) one two = elim (cases_Bool (comes_first y x)) [
  | inl t ↦ rw t (two.0, union_heavies y.c (x ∷ xs) ys (first_light y x t, one.1) two.1)
  | inr f ↦ rw f (one.0, union_heavies x.c xs (y ∷ ys) one.1 (second_heavy y x f, two.1))
]

pub union_taken : (xs ys : List Candidate) (z : Candidate) → IsCandidateOf (union xs ys) z → IsOfEither xs ys z
union_taken [] ys z m = inr m
union_taken (x ∷ xs) [] z (inl e) = inl (inl e)
union_taken (x ∷ xs) [] z (inr more) = elim (union_taken xs [] z more) [ inl a ↦ inl (inr a) | inr b ↦ inr b ]
union_taken (x ∷ xs) (y ∷ ys) z m = elim (cases_Bool (comes_first y x)) [
  | inl t ↦ elim (let m' : (z ≡ y) ⊎ IsCandidateOf (union (x ∷ xs) ys) z = rw t at m in m') [
    | inl e ↦ inr (inl e)
    | inr more ↦ elim (union_taken (x ∷ xs) ys z more) [ inl a ↦ inl a | inr b ↦ inr (inr b) ]
  ]
  | inr f ↦ elim (let m' : (z ≡ x) ⊎ IsCandidateOf (union xs (y ∷ ys)) z = rw f at m in m') [
    | inl e ↦ inl (inl e)
    | inr more ↦ elim (union_taken xs (y ∷ ys) z more) [ inl a ↦ inl (inr a) | inr b ↦ inr b ]
  ]
]

pub union_all : (xs ys : List Candidate) (z : Candidate) → IsOfEither xs ys z → IsCandidateOf (union xs ys) z
union_all [] ys z (inl a) = absurd a
union_all [] ys z (inr b) = b
union_all (x ∷ xs) [] z (inl (inl e)) = inl e
union_all (x ∷ xs) [] z (inl (inr a)) = inr (union_all xs [] z (inl a))
union_all (x ∷ xs) [] z (inr b) = absurd b
union_all (x ∷ xs) (y ∷ ys) z m = elim (cases_Bool (comes_first y x)) [
  | inl t ↦ rw t (elim m [
    | inl a ↦ inr (union_all (x ∷ xs) ys z (inl a))
    | inr (inl e) ↦ inl e
    | inr (inr b) ↦ inr (union_all (x ∷ xs) ys z (inr b))
  ])
  | inr f ↦ rw f (elim m [
    | inl (inl e) ↦ inl e
    | inl (inr a) ↦ inr (union_all xs (y ∷ ys) z (inl a))
    | inr b ↦ inr (union_all xs (y ∷ ys) z (inr b))
  ])
]

-- what is kept of a list in order of c is in order of c
lower : (low high : ℕ) (xs : List Candidate) → low ≤ high → HeaviesFrom high xs → HeaviesFrom low xs
lower low high [] le heavies = tt
lower low high (x ∷ xs) le heavies = let a : high ≤ x.c = heavies.0 in (omega arith, heavies.1)

kept_heavies : (least : ℕ) (best : ℤ) (xs : List Candidate) → HeaviesFrom least xs → HeaviesFrom least (kept best xs)
kept_heavies least best [] heavies = tt
kept_heavies least best (x ∷ xs) heavies = elim (cases_Bool (int_lt best x.q)) [
  | inl t ↦ rw t (heavies.0, kept_heavies x.c x.q xs heavies.1)
  | inr f ↦ rw f (kept_heavies least best xs (lower least x.c xs heavies.0 heavies.1))
]

pub union_undominated : (xs ys : Candidates) → HeaviesFrom 0 xs → HeaviesFrom 0 ys → IsUndominatedOf xs ys (undominated (union xs ys))
union_undominated xs ys one two =
    let both : HeaviesFrom 0 (union xs ys) = union_heavies 0 xs ys one two in
    record {
      rises = kept_rises lowest (union xs ys);
      heavies = kept_heavies 0 lowest (union xs ys) both;
      taken = λ z m. union_taken xs ys z (kept_taken lowest (union xs ys) z m);
      covers = λ x m. kept_covers 0 (union xs ys) both lowest x (union_all xs ys x m);
    }

-- of equal c the greater q comes first
first_order : (y x : Candidate) → comes_first y x ≡ true → y.c ≡ x.c → x.q ≤ℤ y.q
first_order y x e same = elim (cases_Bool (ltb y.c x.c)) [
  | inl t ↦ absurd (grind (arith, t))
  | inr f ↦ elim (cases_Bool (int_lt x.q y.q)) [
    | inl over ↦ omega (arith, ints, over)
    | inr under ↦ elim (cases_Bool (eqb y.c x.c)) [
      | inl t ↦ let no : false ≡ true = rw (f, t, under) at e in absurd (cc)
      | inr other ↦ let no : false ≡ true = rw (f, other) at e in absurd (cc)
    ]
  ]
]

second_order : (y x : Candidate) → comes_first y x ≡ false → x.c ≡ y.c → y.q ≤ℤ x.q
second_order y x e same = elim (cases_Bool (ltb y.c x.c)) [
  | inl t ↦ let no : true ≡ false = rw t at e in absurd (cc)
  | inr f ↦ elim (cases_Bool (int_lt x.q y.q)) [
    | inr under ↦ omega (arith, ints, under)
    | inl over ↦ elim (cases_Bool (eqb y.c x.c)) [
      | inl t ↦ let no : true ≡ false = rw (f, t, over) at e in absurd (cc)
      | inr other ↦ absurd (grind (arith, other))
    ]
  ]
]

-- a union is in this order too
ordered_after : (w : Candidate) (xs ys : List Candidate) → InOrderAfter w xs → InOrderAfter w ys → InOrderAfter w (union xs ys)
ordered_after w [] ys one two = two
ordered_after w (x ∷ xs) [] one two = (one.0, one.1, ordered_after x xs [] one.2 tt)
ordered_after w (x ∷ xs) (y ∷ ys) one two = elim (cases_Bool (comes_first y x)) [
  | inl t ↦ rw t (two.0, two.1, ordered_after y (x ∷ xs) ys (first_light y x t, first_order y x t, one.2) two.2)
  | inr f ↦ rw f (one.0, one.1, ordered_after x xs (y ∷ ys) one.2 (second_heavy y x f, second_order y x f, two.2))
]

pub union_ordered : (xs ys : List Candidate) → IsInOrder xs → IsInOrder ys → IsInOrder (union xs ys)
union_ordered [] ys one two = two
union_ordered (x ∷ xs) [] one two = ordered_after x xs [] one tt
union_ordered (x ∷ xs) (y ∷ ys) one two = elim (cases_Bool (comes_first y x)) [
  | inl t ↦ rw t (ordered_after y (x ∷ xs) ys (first_light y x t, first_order y x t, one) two)
  | inr f ↦ rw f (ordered_after x xs (y ∷ ys) one (second_heavy y x f, second_order y x f, two))
]

-- k is the last that was kept, and w the last that was seen
heavier_kept : (k w : Candidate) (xs : List Candidate) → k.c ≤ w.c → w.q ≤ℤ k.q → InOrderAfter w xs → HeavierThan k.c (kept k.q xs)
heavier_kept k w [] light slow order = tt
heavier_kept k w (x ∷ xs) light slow order =
    let on : w.c ≤ x.c = order.0 in
    elim (cases_Bool (int_lt k.q x.q)) [
      | inl t ↦ rw t (
        elim (is_same w.c x.c) [
          | inl e ↦ let low : x.q ≤ℤ w.q = order.1 e in absurd (omega (arith, ints, t))
          | inr d ↦ omega arith
        ],
        heavier_kept x x xs (omega arith) (omega (arith, ints)) order.2,
      )
      | inr f ↦ rw f (heavier_kept k x xs (omega arith) (omega (arith, ints, f)) order.2)
    ]

order_tail : (x : Candidate) (xs : List Candidate) → InOrderAfter x xs → IsInOrder xs
order_tail x [] order = tt
order_tail x (y ∷ ys) order = order.2

pub rises_kept : (best : ℤ) (xs : List Candidate) → IsInOrder xs → RisesInLoad (kept best xs)
rises_kept best [] order = tt
rises_kept best (x ∷ xs) order = elim (cases_Bool (int_lt best x.q)) [
  | inl t ↦ rw t (heavier_kept x x xs (omega arith) (omega (arith, ints)) order)
  | inr f ↦ rw f (rises_kept best xs (order_tail x xs order))
]

pub union_rises : (xs ys : Candidates) → IsInOrder xs → IsInOrder ys → RisesInLoad (undominated (union xs ys))
union_rises xs ys one two = rises_kept lowest (union xs ys) (union_ordered xs ys one two)
