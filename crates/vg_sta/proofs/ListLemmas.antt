-- What lists contain that are made of others.
use Rattle.std.proofs.Common.{◌≡◌, ℕ, zero, suc, ◌+◌, nat_lt, Bool, true, false, not, ◌||◌, cond, List, [], ◌∷◌, ◌++◌, length, map, filter, take, position, slice_get, refl, sym, ap, ◌∙◌, subst, arith, Option, Some, None}
use Rattle.std.specs.List.{Contains, cons_option, filter_map, list_any, position_or_len}
use Rattle.std.specs.Option.{is_some}
use Rattle.std.proofs.lemmas.Bool.Decides.{nat_tests}
use Rattle.std.proofs.lemmas.List.{take_more}
use Rattle.std.proofs.lemmas.List.Elements.{filter_map-append}
use Rattle.std.proofs.lemmas.Option.{get_or_from_slice_get, slice_get-get_or, slice_get_within}

-- an element by its place
pub contains_get : {X : Type 0} (xs : List X) (i : ℕ) (x : X) → slice_get xs i ≡ Some x → Contains xs x
contains_get xs i x is = (i, slice_get_within xs i x is, get_or_from_slice_get xs i x x is)

pub get_contained : {X : Type 0} (xs : List X) (x : X) → Contains xs x → (i : ℕ) × (slice_get xs i ≡ Some x)
get_contained xs x (i, low, is) = (i, slice_get-get_or xs i x low ∙ ap Some is)

contains_later : {X : Type 0} (y : X) (xs : List X) (x : X) → Contains xs x → Contains (y ∷ xs) x
contains_later y xs x (i, low, is) = (suc i, omega (arith, low), is)

contains_first : {X : Type 0} (x : X) (xs : List X) → Contains (x ∷ xs) x
contains_first x xs = (zero, omega arith, refl)

-- the head, or an element of the rest
contains_cases : {X P : Type 0} (y : X) (xs : List X) (x : X) → Contains (y ∷ xs) x → (y ≡ x → P) → (Contains xs x → P) → P
contains_cases y xs x (zero, low, is) here later = here is
contains_cases y xs x (suc i, low, is) here later = later (i, omega (arith, low), is)

contains_none : {X : Type 0} (x : X) → Contains [] x → ⊥
contains_none x (i, low, is) = omega (arith, low)

-- ---- map

pub map_in : {X Y : Type 0} (f : X → Y) (xs : List X) (x : X) → Contains xs x → Contains (map f xs) (f x)
map_in f [] x in' = absurd (contains_none x in')
map_in f (y ∷ xs) x in' = contains_cases y xs x in'
    (λ here. subst (λ z. Contains (f y ∷ map f xs) z) (ap f here) (contains_first (f y) (map f xs)))
    (λ later. contains_later (f y) (map f xs) (f x) (map_in f xs x later))

pub in_map : {X Y : Type 0} (f : X → Y) (xs : List X) (y : Y) → Contains (map f xs) y → (x : X) × Contains xs x × (f x ≡ y)
in_map f [] y in' = absurd (contains_none y in')
in_map f (x ∷ xs) y in' = contains_cases (f x) (map f xs) y in'
    (λ here. (x, contains_first x xs, here))
    (λ later. let (z, there, is) = in_map f xs y later in (z, contains_later x xs z there, is))

-- ---- filter

pub filter_in : {X : Type 0} (p : X → Bool) (xs : List X) (x : X) → Contains xs x → p x ≡ true → Contains (filter p xs) x
filter_in p [] x in' passes = absurd (contains_none x in')
filter_in p (y ∷ xs) x in' passes = contains_cases y xs x in'
    (λ here. subst (λ b. Contains (cond b (y ∷ filter p xs) (filter p xs)) x) (sym (ap p here ∙ passes)) (subst (λ z. Contains (y ∷ filter p xs) z) here (contains_first y (filter p xs))))
    (λ later. either (p y) (filter_in p xs x later passes))
  where
    either : (b : Bool) → Contains (filter p xs) x → Contains (cond b (y ∷ filter p xs) (filter p xs)) x
    either true there = contains_later y (filter p xs) x there
    either false there = there

pub in_filter : {X : Type 0} (p : X → Bool) (xs : List X) (x : X) → Contains (filter p xs) x → Contains xs x × (p x ≡ true)
in_filter p [] x in' = absurd (contains_none x in')
in_filter p (y ∷ xs) x in' = either (λ there. in_filter p xs x there) (p y) refl in'
  where
    either : (Contains (filter p xs) x → Contains xs x × (p x ≡ true)) → (b : Bool) → p y ≡ b → Contains (cond b (y ∷ filter p xs) (filter p xs)) x → Contains (y ∷ xs) x × (p x ≡ true)
    either rest true e there = contains_cases y (filter p xs) x there
        (λ here. (subst (λ z. Contains (y ∷ xs) z) here (contains_first y xs), ap p (sym here) ∙ e))
        (λ later. let (found, passes) = rest later in (contains_later y xs x found, passes))
    either rest false e there = let (found, passes) = rest there in (contains_later y xs x found, passes)

-- ---- filter_map

pub filter_map_in : {X Y : Type 0} (f : X → Option Y) (xs : List X) (x : X) (y : Y) → Contains xs x → f x ≡ Some y → Contains (filter_map f xs) y
filter_map_in f [] x y in' is = absurd (contains_none x in')
filter_map_in {Y = Y} f (z ∷ xs) x y in' is = contains_cases z xs x in'
    (λ here. first (f z) (ap f here ∙ is))
    (λ later. more (f z) (filter_map_in f xs x y later is))
  where
    first : (o : Option Y) → o ≡ Some y → Contains (cons_option o (filter_map f xs)) y
    first None e = absurd (cc)
    first (Some w) e = let same : w ≡ y = cc in subst (λ v. Contains (w ∷ filter_map f xs) v) same (contains_first w (filter_map f xs))

    more : (o : Option Y) → Contains (filter_map f xs) y → Contains (cons_option o (filter_map f xs)) y
    more None there = there
    more (Some w) there = contains_later w (filter_map f xs) y there

pub in_filter_map : {X Y : Type 0} (f : X → Option Y) (xs : List X) (y : Y) → Contains (filter_map f xs) y → (x : X) × Contains xs x × (f x ≡ Some y)
in_filter_map f [] y in' = absurd (contains_none y in')
in_filter_map {X = X} {Y = Y} f (z ∷ xs) y in' = either (λ there. let (x, found, is) = in_filter_map f xs y there in (x, contains_later z xs x found, is)) (f z) refl in'
  where
    either : (Contains (filter_map f xs) y → (x : X) × Contains (z ∷ xs) x × (f x ≡ Some y)) → (o : Option Y) → f z ≡ o → Contains (cons_option o (filter_map f xs)) y → (x : X) × Contains (z ∷ xs) x × (f x ≡ Some y)
    either rest None e there = rest there
    either rest (Some w) e there = contains_cases w (filter_map f xs) y there (λ here. (z, contains_first z xs, e ∙ ap Some here)) rest

-- one more element of a list, and what it gives
pub filter_map_more : {X Y : Type 0} (f : X → Option Y) (xs : List X) (i : ℕ) (x : X) → slice_get xs i ≡ Some x → filter_map f (take (i + 1) xs) ≡ filter_map f (take i xs) ++ cons_option (f x) []
filter_map_more {X = X} {Y = Y} f xs i x is =
    ap (filter_map f) (take_more xs i x (slice_get_within xs i x is) ∙ ap (λ (y : X). take i xs ++ y ∷ []) (get_or_from_slice_get xs i x x is)) ∙ filter_map-append f (take i xs) (x ∷ [])

-- ---- tests

any_there : {X : Type 0} (p : X → Bool) (xs : List X) → list_any p xs ≡ nat_lt (position_or_len p xs) (length xs)
any_there p [] = refl
any_there p (x ∷ xs) = by_test (p x) (any_there p xs)
  where
    by_test : (t : Bool) → list_any p xs ≡ nat_lt (position_or_len p xs) (length xs)
        → (t || list_any p xs) ≡ nat_lt (cond (not t) (1 + position_or_len p xs) 0) (suc (length xs))
    by_test true e = grind (arith, nat_tests)
    by_test false e = grind (arith, nat_tests)

-- an element that passes has a place
pub placed : {X : Type 0} (p : X → Bool) (xs : List X) → is_some (position p xs) ≡ list_any p xs
placed p xs = by_test (nat_lt (position_or_len p xs) (length xs)) ∙ sym (any_there p xs)
  where
    by_test : (t : Bool) → is_some (cond t (Some (position_or_len p xs)) None) ≡ t
    by_test true = refl
    by_test false = refl
