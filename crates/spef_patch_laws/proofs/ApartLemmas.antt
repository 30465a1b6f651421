-- Lists of which no two items are the same.
use Rattle.std.proofs.Common.{◌≡◌, ℕ, zero, suc, ◌<◌, ◌⊎◌, inl, inr, Bool, true, false, ◌||◌, List, [], ◌∷◌, ◌++◌, length, get_or, map, refl, sym, ap, ◌∙◌, arith, subst}
use Rattle.std.proofs.lemmas.Slice.Eq.{bytes_eq-Decides}
use Rattle.std.specs.List.{Contains, list_any}
use Rattle.std.specs.Str.{bytes_eq}
use Rattle.name_tables.specs.Distinct.{AreNew}

-- an item of a list
abbrev pub In : {A : Type 0} → A → List A → Type 0
In x [] = ⊥
In x (y ∷ ys) = (x ≡ y) ⊎ In x ys

-- no item stands twice
abbrev pub Apart : {A : Type 0} → List A → Type 0
Apart [] = Unit {0}
Apart (x ∷ xs) = (In x xs → ⊥) × Apart xs

-- ---- items

pub in_left : {A : Type 0} (x : A) (xs ys : List A) → In x xs → In x (xs ++ ys)
in_left x (y ∷ xs) ys (inl e) = inl e
in_left x (y ∷ xs) ys (inr h) = inr (in_left x xs ys h)
in_left x [] ys h = absurd h

pub in_right : {A : Type 0} (x : A) (xs ys : List A) → In x ys → In x (xs ++ ys)
in_right x [] ys h = h
in_right x (y ∷ xs) ys h = inr (in_right x xs ys h)

pub in_one : {A : Type 0} (x : A) (xs ys : List A) → In x (xs ++ ys) → In x xs ⊎ In x ys
in_one x [] ys h = inr h
in_one x (y ∷ xs) ys (inl e) = inl (inl e)
in_one x (y ∷ xs) ys (inr h) = elim (in_one x xs ys h) as (λ _. In x (y ∷ xs) ⊎ In x ys) [
  | inl a ↦ inl (inr a)
  | inr b ↦ inr b
]

pub in_map : {A B : Type 0} (f : A → B) (x : A) (xs : List A) → In x xs → In (f x) (map f xs)
in_map f x (y ∷ xs) (inl e) = inl (ap f e)
in_map f x (y ∷ xs) (inr h) = inr (in_map f x xs h)
in_map f x [] h = absurd h

pub from_map : {A B : Type 0} (f : A → B) (y : B) (xs : List A) → In y (map f xs) → (x : A) × In x xs × (f x ≡ y)
from_map f y (x ∷ xs) (inl e) = (x, inl refl, sym e)
from_map f y (x ∷ xs) (inr h) = (let (z, there, e) = from_map f y xs h in (z, inr there, e))
from_map f y [] h = absurd h

pub in_contains : {A : Type 0} (x : A) (xs : List A) → In x xs → Contains xs x
in_contains x (y ∷ xs) (inl e) = (0, omega arith, sym e)
in_contains x (y ∷ xs) (inr h) = (let (k, l, e) = in_contains x xs h in (suc k, omega (arith, l), e))
in_contains x [] h = absurd h

in_get : {A : Type 0} (x : A) (xs : List A) (k : ℕ) → k < length xs → get_or xs k x ≡ x → In x xs
in_get x [] k l e = absurd (omega arith)
in_get x (y ∷ xs) zero l e = inl (sym e)
in_get x (y ∷ xs) (suc k) l e = inr (in_get x xs k (omega arith) e)

pub contains_in : {A : Type 0} (x : A) (xs : List A) → Contains xs x → In x xs
contains_in x xs (k, l, e) = in_get x xs k l e

-- ---- lists without an item twice

pub apart_both : {A : Type 0} (xs ys : List A) → Apart xs → Apart ys → ((x : A) → In x xs → In x ys → ⊥) → Apart (xs ++ ys)
apart_both [] ys p q none = q
apart_both (x ∷ xs) ys p q none = (
  (λ h. elim (in_one x xs ys h) [ inl a ↦ p.0 a | inr b ↦ none x (inl refl) b ]),
  apart_both xs ys p.1 q (λ y a b. none y (inr a) b),
)

pub apart_left : {A : Type 0} (xs ys : List A) → Apart (xs ++ ys) → Apart xs
apart_left [] ys h = tt
apart_left (x ∷ xs) ys h = ((λ a. h.0 (in_left x xs ys a)), apart_left xs ys h.1)

pub apart_right : {A : Type 0} (xs ys : List A) → Apart (xs ++ ys) → Apart ys
apart_right [] ys h = h
apart_right (x ∷ xs) ys h = apart_right xs ys h.1

pub apart_never : {A : Type 0} (xs ys : List A) → Apart (xs ++ ys) → (x : A) → In x xs → In x ys → ⊥
apart_never (y ∷ xs) ys h x (inl e) b = h.0 (subst (λ z. In z (xs ++ ys)) e (in_right x xs ys b))
apart_never (y ∷ xs) ys h x (inr a) b = apart_never xs ys h.1 x a b
apart_never [] ys h x a b = absurd a

-- ---- names

none_false : (a b : Bool) → a ≡ false → b ≡ false → (a || b) ≡ false
none_false true b e f = e
none_false false b e f = f

other_name : (x y : List ℕ) → (x ≡ y → ⊥) → bytes_eq x y ≡ false
other_name x y h = by_test (bytes_eq x y) refl
  where
    by_test : (t : Bool) → bytes_eq x y ≡ t → t ≡ false
    by_test true e = absurd (h ((bytes_eq-Decides x y).0 e))
    by_test false e = refl

same_name : (x : List ℕ) → bytes_eq x x ≡ true
same_name x = (bytes_eq-Decides x x).1 refl

pub any_none : (x : List ℕ) (names : List (List ℕ)) → (In x names → ⊥) → list_any (bytes_eq x) names ≡ false
any_none x [] h = refl
any_none x (y ∷ names) h = none_false (bytes_eq x y) (list_any (bytes_eq x) names) (other_name x y (λ e. h (inl e))) (any_none x names (λ a. h (inr a)))

pub or_first : (a b : Bool) → a ≡ true → (a || b) ≡ true
or_first true b e = refl
or_first false b e = absurd (cc)

pub or_second : (a b : Bool) → b ≡ true → (a || b) ≡ true
or_second true b e = refl
or_second false b e = e

pub in_any : (x : List ℕ) (names : List (List ℕ)) → In x names → list_any (bytes_eq x) names ≡ true
in_any x (y ∷ names) (inl e) = or_first (bytes_eq x y) (list_any (bytes_eq x) names) ((bytes_eq-Decides x y).1 e)
in_any x (y ∷ names) (inr h) = or_second (bytes_eq x y) (list_any (bytes_eq x) names) (in_any x names h)
in_any x [] h = absurd h

pub new_apart : (before names : List (List ℕ)) → AreNew before names → Apart names × ((x : List ℕ) → In x before → In x names → ⊥)
new_apart before [] h = (tt, λ x a b. b)
new_apart before (y ∷ names) h =
    let rest = new_apart (before ++ y ∷ []) names h.1 in (
      ((λ a. rest.1 y (in_right y before (y ∷ []) (inl refl)) a), rest.0),
      (λ x a b. elim b [
        | inl e ↦ (let t : true ≡ false = sym (in_any y before (subst (λ z. In z before) e a)) ∙ h.0 in cc)
        | inr later ↦ rest.1 x (in_left x before (y ∷ []) a) later
      ]),
    )

pub apart_new : (before names : List (List ℕ)) → Apart names → ((x : List ℕ) → In x before → In x names → ⊥) → AreNew before names
apart_new before [] h none = tt
apart_new before (y ∷ names) h none = (
  any_none y before (λ a. none y a (inl refl)),
  apart_new (before ++ y ∷ []) names h.1 (λ x a b. elim (in_one x before (y ∷ []) a) [
    | inl old ↦ none x old (inr b)
    | inr one ↦ elim one [ inl e ↦ h.0 (subst (λ z. In z names) e b) | inr none_there ↦ none_there ]
  ]),
)
