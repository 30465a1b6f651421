-- Look-ups by names that stand in a table beside the list.
use Rattle.std.proofs.Common.{◌≡◌, ℕ, ◌+◌, ◌≤◌, nat_lt, Bool, true, false, not, cond, List, [], ◌∷◌, length, map, position, find, slice_get, Some, None, refl, sym, ap, ◌∙◌, arith}
use Rattle.std.specs.List.{position_or_len}
use Rattle.std.proofs.lemmas.Bool.Decides.{nat_tests}
use Rattle.std.proofs.lemmas.List.Folds.{find_at}
use Rattle.std.proofs.lemmas.List.{length-map}
use Rattle.std.proofs.lemmas.Option.{slice_get_past}

module _ {X A : Type 0} (f : X → A) (p : A → Bool) where
  place_map : (xs : List X) → position_or_len p (map f xs) ≡ position_or_len (λ x. p (f x)) xs
  place_map [] = refl
  place_map (x ∷ xs) = ap (λ n. cond (not (p (f x))) (1 + n) 0) (place_map xs)

  pub position_map : (xs : List X) → position p (map f xs) ≡ position (λ x. p (f x)) xs
  position_map xs = rw (place_map xs, length-map xs f) refl

past : (n l : ℕ) → nat_lt n l ≡ false → l ≤ n
past n l e = grind (arith, nat_tests)

module _ {X : Type 0} (p : X → Bool) (xs : List X) where
  pub absent : position p xs ≡ None → find p xs ≡ None
  absent h = by_test (nat_lt (position_or_len p xs) (length xs)) refl
    where
      by_test : (t : Bool) → nat_lt (position_or_len p xs) (length xs) ≡ t → find p xs ≡ None
      by_test true t = let g = rw t at h in absurd (cc)
      by_test false t = find_at p xs ∙ slice_get_past xs (position_or_len p xs) (past (position_or_len p xs) (length xs) t)

  pub present : (k : ℕ) → position p xs ≡ Some k → find p xs ≡ slice_get xs k
  present k h = by_test (nat_lt (position_or_len p xs) (length xs)) refl
    where
      by_test : (t : Bool) → nat_lt (position_or_len p xs) (length xs) ≡ t → find p xs ≡ slice_get xs k
      by_test true t = let g : position_or_len p xs ≡ k = (let g' = rw t at h in cc) in find_at p xs ∙ ap (slice_get xs) g
      by_test false t = let g = rw t at h in absurd (cc)

pub by_table : {X A : Type 0} (f : X → A) (p : A → Bool) (xs : List X) (names : List A) (k : ℕ) → names ≡ map f xs → position p names ≡ Some k
    → find (λ x. p (f x)) xs ≡ slice_get xs k
by_table f p xs names k e h = present (λ x. p (f x)) xs k (sym (position_map f p xs) ∙ rw (sym e) h)

pub by_no_table : {X A : Type 0} (f : X → A) (p : A → Bool) (xs : List X) (names : List A) → names ≡ map f xs → position p names ≡ None
    → find (λ x. p (f x)) xs ≡ None
by_no_table f p xs names e h = absent (λ x. p (f x)) xs (sym (position_map f p xs) ∙ rw (sym e) h)
