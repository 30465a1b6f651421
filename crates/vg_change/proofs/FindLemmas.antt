-- The first of a list that passes a test, sought from the front.
use Rattle.std.proofs.Common.{◌≡◌, ℕ, zero, suc, ◌+◌, ◌-◌, ◌<◌, ◌≤◌, Bool, true, false, cond, List, [], ◌∷◌, ◌++◌, map, take, find, refl, sym, ap, ◌∙◌, arith, Option, Some, None}
use Rattle.std.specs.Prelude.{option_map}
use Rattle.std.specs.List.{slice_get}
use Rattle.std.proofs.lemmas.Option.{slice_get-map}

module _ {X : Type 0} (test : X → Bool) where
  -- none of the first i passes
  pub none_more : (xs : List X) (i : ℕ) (x : X) → slice_get xs i ≡ Some x → test x ≡ false → find test (take i xs) ≡ None → find test (take (i + 1) xs) ≡ None
  none_more [] i x at misses none = absurd (cc)
  none_more (y ∷ ys) zero x at misses none = ap (λ b. cond b (Some y) None) (ap test (some_is y x at) ∙ misses)
    where
      some_is : (a b : X) → Some a ≡ Some b → a ≡ b
      some_is a b e = cc
  none_more (y ∷ ys) (suc i) x at misses none =
      ap (λ k. find test (take k (y ∷ ys))) (let e : suc i + 1 ≡ suc (i + 1) = omega arith in e) ∙ either (test y) refl (none_more ys i x at misses)
    where
      either : (t : Bool) → test y ≡ t → (find test (take i ys) ≡ None → find test (take (i + 1) ys) ≡ None) → cond t (Some y) (find test (take (i + 1) ys)) ≡ None
      either true e more = absurd (let h : Some y ≡ None = sym (ap (λ b. cond b (Some y) (find test (take i ys))) e) ∙ none in cc)
      either false e more = more (sym (ap (λ b. cond b (Some y) (find test (take i ys))) e) ∙ none)

  -- the next one does, and is the first
  pub found_next : (xs : List X) (i : ℕ) (x : X) → slice_get xs i ≡ Some x → test x ≡ true → find test (take i xs) ≡ None → find test xs ≡ Some x
  found_next [] i x at has none = absurd (cc)
  found_next (y ∷ ys) zero x at has none = ap (λ b. cond b (Some y) (find test ys)) (ap test (some_is y x at) ∙ has) ∙ at
    where
      some_is : (a b : X) → Some a ≡ Some b → a ≡ b
      some_is a b e = cc
  found_next (y ∷ ys) (suc i) x at has none = either (test y) refl (found_next ys i x at has)
    where
      either : (t : Bool) → test y ≡ t → (find test (take i ys) ≡ None → find test ys ≡ Some x) → cond t (Some y) (find test ys) ≡ Some x
      either true e more = absurd (let h : Some y ≡ None = sym (ap (λ b. cond b (Some y) (find test (take i ys))) e) ∙ none in cc)
      either false e more = more (sym (ap (λ b. cond b (Some y) (find test (take i ys))) e) ∙ none)

  -- nor does the next one, if there is one
  none_next : (xs : List X) (i : ℕ) → ((x : X) → slice_get xs i ≡ Some x → test x ≡ false) → find test (take i xs) ≡ None → find test (take (i + 1) xs) ≡ None
  none_next [] i misses none = ap (λ k. find test (take {A = X} k [])) (let e : i + 1 ≡ suc i = omega arith in e)
  none_next (y ∷ ys) zero misses none = none_more (y ∷ ys) zero y refl (misses y refl) none
  none_next (y ∷ ys) (suc i) misses none =
      ap (λ k. find test (take k (y ∷ ys))) (let e : suc i + 1 ≡ suc (i + 1) = omega arith in e) ∙ either (test y) refl (none_next ys i misses)
    where
      either : (t : Bool) → test y ≡ t → (find test (take i ys) ≡ None → find test (take (i + 1) ys) ≡ None) → cond t (Some y) (find test (take (i + 1) ys)) ≡ None
      either true e more = absurd (let h : Some y ≡ None = sym (ap (λ b. cond b (Some y) (find test (take i ys))) e) ∙ none in cc)
      either false e more = more (sym (ap (λ b. cond b (Some y) (find test (take i ys))) e) ∙ none)

  none_by : (xs : List X) (from k : ℕ) → ((n : ℕ) (x : X) → from ≤ n → n < from + k → slice_get xs n ≡ Some x → test x ≡ false) → find test (take from xs) ≡ None
      → find test (take (from + k) xs) ≡ None
  none_by xs from zero misses none = ap (λ m. find test (take m xs)) (let e : from + 0 ≡ from = omega arith in e) ∙ none
  none_by xs from (suc k) misses none =
      ap (λ m. find test (take m xs)) (let e : from + suc k ≡ from + k + 1 = omega arith in e)
      ∙ none_next xs (from + k) (λ x at. misses (from + k) x (omega arith) (omega arith) at)
      (none_by xs from k (λ n x low high at. misses n x low (omega (arith, high)) at) none)

  -- none of the first ones passes, where none does up to one number nor from there on
  pub none_up_to : (xs : List X) (from to : ℕ) → from ≤ to → ((n : ℕ) (x : X) → from ≤ n → n < to → slice_get xs n ≡ Some x → test x ≡ false) → find test (take from xs) ≡ None
      → find test (take to xs) ≡ None
  none_up_to xs from to some misses none =
      let is : from + (to - from) ≡ to = omega (arith, some) in
      ap (λ m. find test (take m xs)) (sym is)
      ∙ none_by xs from (to - from) (λ n x low high at. misses n x low (omega (arith, high, some)) at) none

  -- what is found in the front is found in all
  pub found_front : (xs ys : List X) (x : X) → find test xs ≡ Some x → find test (xs ++ ys) ≡ Some x
  found_front [] ys x found = absurd (cc)
  found_front (z ∷ xs) ys x found = either (test z) refl (found_front xs ys x)
    where
      either : (t : Bool) → test z ≡ t → (find test xs ≡ Some x → find test (xs ++ ys) ≡ Some x) → cond t (Some z) (find test (xs ++ ys)) ≡ Some x
      either true e more = sym (ap (λ b. cond b (Some z) (find test xs)) e) ∙ found
      either false e more = more (sym (ap (λ b. cond b (Some z) (find test xs)) e) ∙ found)

  -- where none of the front passes, the rest counts
  pub found_behind : (xs ys : List X) → find test xs ≡ None → find test (xs ++ ys) ≡ find test ys
  found_behind [] ys none = refl
  found_behind (z ∷ xs) ys none = either (test z) refl (found_behind xs ys)
    where
      either : (t : Bool) → test z ≡ t → (find test xs ≡ None → find test (xs ++ ys) ≡ find test ys) → cond t (Some z) (find test (xs ++ ys)) ≡ find test ys
      either true e more = absurd (let h : Some z ≡ None = sym (ap (λ b. cond b (Some z) (find test xs)) e) ∙ none in cc)
      either false e more = more (sym (ap (λ b. cond b (Some z) (find test xs)) e) ∙ none)

-- of what a function makes of a list's elements from one number up to another none passes, where none does of any of them
pub none_mapped : {X Y : Type 0} (f : X → Y) (test : Y → Bool) (xs : List X) (from to : ℕ)
    → ((n : ℕ) (x : X) → from ≤ n → n < to → slice_get xs n ≡ Some x → test (f x) ≡ false)
    → (n : ℕ) (y : Y) → from ≤ n → n < to → slice_get (map f xs) n ≡ Some y → test y ≡ false
none_mapped {X} {Y} f test xs from to misses n y low high at = by_element (slice_get xs n) refl (sym (slice_get-map f xs n) ∙ at)
  where
    by_element : (found : Option X) → slice_get xs n ≡ found → option_map f found ≡ Some y → test y ≡ false
    by_element None e is = absurd (cc)
    by_element (Some x) e is = let same : f x ≡ y = cc in ap test (sym same) ∙ misses n x low high e
