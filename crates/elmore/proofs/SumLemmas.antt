-- Sums over filters and over the numbers of nodes.
use Rattle.std.proofs.Common.{◌≡◌, ℕ, zero, suc, ◌+◌, ◌<◌, ◌≤◌, Bool, true, false, List, [], ◌∷◌, refl, sym, ap, ◌∙◌, eqb, cond, arith, add-one, inl, inr, length, get_or, take}
use Rattle.std.proofs.lemmas.Bool.{eq-eqb, ne_eqb, cases_eq}
use Rattle.std.proofs.lemmas.List.Sums.{sum_by-cons, sum_by-le-sum_by, sum_by_more}
use Rattle.std.proofs.Math.Seq.{take-length}
use Rattle.std.specs.List.{sum_by, filter, range_with_len}
use Rattle.elmore.specs.Path.{nodes}

kept : {X : Type 0} (f : X → ℕ) (x : X) (xs : List X) (b : Bool) → sum_by f (cond b (x ∷ xs) xs) ≡ cond b (f x) 0 + sum_by f xs
kept f x xs true = sum_by-cons f x xs
kept f x xs false = omega arith

pub sum_of_filter : {X : Type 0} (f : X → ℕ) (p : X → Bool) (xs : List X) → sum_by f (filter p xs) ≡ sum_by (λ x. cond (p x) (f x) 0) xs
sum_of_filter f p [] = refl
sum_of_filter {X} f p (x ∷ xs) =
    omega (arith, kept f x (filter p xs) (p x), sum_of_filter f p xs, sum_by-cons (λ (z : X). cond (p z) (f z) 0) x xs)

pub sum_of_both : {X : Type 0} (f g : X → ℕ) (xs : List X) → sum_by (λ x. f x + g x) xs ≡ sum_by f xs + sum_by g xs
sum_of_both f g [] = refl
sum_of_both {X} f g (x ∷ xs) =
    omega (arith, sum_by-cons (λ (z : X). f z + g z) x xs, sum_by-cons f x xs, sum_by-cons g x xs, sum_of_both f g xs)

pub sum_of_same : {X : Type 0} (f g : X → ℕ) (xs : List X) → ((x : X) → f x ≡ g x) → sum_by f xs ≡ sum_by g xs
sum_of_same f g [] same = refl
sum_of_same f g (x ∷ xs) same = omega (arith, sum_by-cons f x xs, sum_by-cons g x xs, sum_of_same f g xs same, same x)

pub sum_of_none : {X : Type 0} (xs : List X) → sum_by (λ (x : X). 0) xs ≡ 0
sum_of_none [] = refl
sum_of_none {X} (x ∷ xs) = omega (arith, sum_by-cons (λ (z : X). 0) x xs, sum_of_none xs)

-- in either order
pub sum_of_sums : {X Y : Type 0} (f : X → Y → ℕ) (xs : List X) (ys : List Y)
    → sum_by (λ x. sum_by (f x) ys) xs ≡ sum_by (λ y. sum_by (λ x. f x y) xs) ys
sum_of_sums {X} {Y} f [] ys = sym (sum_of_none ys)
sum_of_sums {X} {Y} f (x ∷ xs) ys =
    sum_by-cons (λ (z : X). sum_by (f z) ys) x xs
    ∙ ap (λ (k : ℕ). sum_by (f x) ys + k) (sum_of_sums f xs ys)
    ∙ sym (sum_of_both (f x) (λ (y : Y). sum_by (λ (z : X). f z y) xs) ys)
    ∙ sum_of_same _ _ ys (λ (y : Y). sym (sum_by-cons (λ (z : X). f z y) x xs))

-- a filter only takes away
pub sum_of_filter_le : {X : Type 0} (f : X → ℕ) (p : X → Bool) (xs : List X) → sum_by f (filter p xs) ≤ sum_by f xs
sum_of_filter_le {X} f p xs =
    omega (arith, sum_of_filter f p xs, sum_by-le-sum_by (λ (x : X). cond (p x) (f x) 0) f xs (λ x. some (p x) (f x)))
  where
    some : (b : Bool) (n : ℕ) → cond b n 0 ≤ n
    some true n = omega arith
    some false n = omega arith

-- nothing at i in a range that begins above it
sum_past : (f : ℕ → ℕ) (i a n : ℕ) → i < a → sum_by (λ w. cond (eqb w i) (f w) 0) (range_with_len a n) ≡ 0
sum_past f i a zero past = refl
sum_past f i a (suc n) past =
    let here : cond (eqb a i) (f a) 0 ≡ 0 = rw (ne_eqb a i (omega arith)) refl in
    omega (arith, sum_by-cons (λ (w : ℕ). cond (eqb w i) (f w) 0) a (range_with_len (a + 1) n), here, sum_past f i (a + 1) n (omega arith))

pub sum_at : (f : ℕ → ℕ) (i a n : ℕ) → a ≤ i → i < a + n → sum_by (λ w. cond (eqb w i) (f w) 0) (range_with_len a n) ≡ f i
sum_at f i a zero low high = absurd (omega arith)
sum_at f i a (suc n) low high =
    elim (cases_eq a i) [
      | inl here ↦
          let first : cond (eqb a i) (f a) 0 ≡ f i = rw (eq-eqb a i here) (ap f here) in
          omega (arith, sum_by-cons (λ (w : ℕ). cond (eqb w i) (f w) 0) a (range_with_len (a + 1) n), first, sum_past f i (a + 1) n (omega arith))
      | inr later ↦
          let first : cond (eqb a i) (f a) 0 ≡ 0 = rw (ne_eqb a i later) refl in
          omega (arith, sum_by-cons (λ (w : ℕ). cond (eqb w i) (f w) 0) a (range_with_len (a + 1) n), first, sum_at f i (a + 1) n (omega arith) (omega arith))
    ]

-- one number more
more_from : (f : ℕ → ℕ) (a n k : ℕ) → a + n ≡ k → sum_by f (range_with_len a (suc n)) ≡ sum_by f (range_with_len a n) + f k
more_from f a zero k e =
    let here : f a ≡ f k = ap f (omega arith) in
    omega (arith, sum_by-cons f a [])
more_from f a (suc n) k e =
    omega (arith, sum_by-cons f a (range_with_len (a + 1) (suc n)), sum_by-cons f a (range_with_len (a + 1) n), more_from f (a + 1) n k (omega arith))

pub sum_of_more : (f : ℕ → ℕ) (n : ℕ) → sum_by f (nodes (n + 1)) ≡ sum_by f (nodes n) + f n
sum_of_more f n = ap (λ (k : ℕ). sum_by f (nodes k)) (add-one n) ∙ more_from f 0 n n (omega arith)

pub sum_of_fewer : (f : ℕ → ℕ) (m n : ℕ) → m ≤ n → sum_by f (nodes m) ≤ sum_by f (nodes n)
sum_of_fewer f m zero h = let e : m ≡ 0 = omega arith in omega (arith, ap (λ (k : ℕ). sum_by f (nodes k)) e)
sum_of_fewer f m (suc n) h =
    elim (cases_eq m (suc n)) [
      | inl e ↦ omega (arith, ap (λ (k : ℕ). sum_by f (nodes k)) e)
      | inr ne ↦ omega (arith, sum_of_fewer f m n (omega arith), more_from f 0 n n (omega arith))
    ]

-- two functions that are alike below n
pub sum_of_alike : (f g : ℕ → ℕ) (n : ℕ) → ((k : ℕ) → k < n → f k ≡ g k) → sum_by f (nodes n) ≡ sum_by g (nodes n)
sum_of_alike f g zero alike = refl
sum_of_alike f g (suc n) alike =
    omega (arith, more_from f 0 n n (omega arith), more_from g 0 n n (omega arith), alike n (omega arith), sum_of_alike f g n (λ k h. alike k (omega arith)))

-- a sum over the numbers of a list's elements is one over its elements; what stands past the end does not matter
pub sum_of_items : {X : Type 0} (f : X → ℕ) (d : ℕ → X) (xs : List X) → sum_by (λ v. f (get_or xs v (d v))) (nodes (length xs)) ≡ sum_by f xs
sum_of_items {X} f d xs = first (length xs) (omega arith) ∙ ap (sum_by f) (take-length xs)
  where
    first : (k : ℕ) → k ≤ length xs → sum_by (λ v. f (get_or xs v (d v))) (nodes k) ≡ sum_by f (take k xs)
    first zero h = refl
    first (suc k) h =
        ap (λ (j : ℕ). sum_by (λ v. f (get_or xs v (d v))) (nodes j)) (sym (add-one k))
        ∙ sum_of_more (λ v. f (get_or xs v (d v))) k
        ∙ ap (λ (j : ℕ). j + f (get_or xs k (d k))) (first k (omega arith))
        ∙ sym (sum_by_more f xs k (d k) (omega arith))
        ∙ ap (λ (j : ℕ). sum_by f (take j xs)) (add-one k)

-- each summand is at most the sum
pub summand_le : (f : ℕ → ℕ) (i n : ℕ) → i < n → f i ≤ sum_by f (nodes n)
summand_le f i n i_n =
    omega (
      arith,
      sum_of_filter_le f (λ (w : ℕ). eqb w i) (nodes n),
      sum_of_filter f (λ (w : ℕ). eqb w i) (nodes n),
      sum_at f i 0 n (omega arith) (omega arith),
    )
