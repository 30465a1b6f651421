-- Members of lists.
use Rattle.std.proofs.Common.{◌≡◌, ℕ, zero, suc, Bool, true, false, ◌||◌, List, [], ◌∷◌, ◌++◌, map, Some, refl, sym, ap, ◌∙◌, subst, arith, ◌⊎◌, inl, inr}
use Rattle.std.specs.Prelude.{slice_get}
use Rattle.std.specs.List.{All, Contains, flat_map, list_any}
use Rattle.std.specs.Str.{bytes_eq}
use Rattle.std.proofs.lemmas.List.Elements.{All-cons, All-nil}
use Rattle.std.proofs.lemmas.Option.{none-some, same_Some}
use Rattle.ver_file.specs.Flaws.{unless}
use Rattle.ver_file.proofs.ListLemmas.{bytes_are, bytes_same}
use Rattle.ver_file.proofs.NetLemmas.{no_left, no_right}
use Rattle.ver_patch_text_laws.proofs.TextLemmas.{Each}
use Rattle.ver_patch_laws.proofs.RelinkedLemmas.{In}

-- ---- one of a list

pub in_map : {X Y : Type 0} (f : X → Y) (xs : List X) (x : X) → In x xs → In (f x) (map f xs)
in_map f [] x i = absurd i
in_map f (y ∷ ys) x (inl e) = inl (ap f e)
in_map f (y ∷ ys) x (inr i) = inr (in_map f ys x i)

pub in_mapped : {X Y : Type 0} (f : X → Y) (xs : List X) (y : Y) → In y (map f xs) → (x : X) × In x xs × (y ≡ f x)
in_mapped f [] y i = absurd i
in_mapped f (x ∷ xs) y (inl e) = (x, inl refl, e)
in_mapped f (x ∷ xs) y (inr i) = let (z, j, e) = in_mapped f xs y i in (z, inr j, e)

pub in_left : {X : Type 0} (xs ys : List X) (x : X) → In x xs → In x (xs ++ ys)
in_left [] ys x i = absurd i
in_left (z ∷ xs) ys x (inl e) = inl e
in_left (z ∷ xs) ys x (inr i) = inr (in_left xs ys x i)

pub in_right : {X : Type 0} (xs ys : List X) (x : X) → In x ys → In x (xs ++ ys)
in_right [] ys x i = i
in_right (z ∷ xs) ys x i = inr (in_right xs ys x i)

pub in_either : {X : Type 0} (xs ys : List X) (x : X) → In x (xs ++ ys) → In x xs ⊎ In x ys
in_either [] ys x i = inr i
in_either (z ∷ xs) ys x (inl e) = inl (inl e)
in_either (z ∷ xs) ys x (inr i) = elim (in_either xs ys x i) [ inl j ↦ inl (inr j) | inr j ↦ inr j ]

pub in_flat : {X Y : Type 0} (f : X → List Y) (xs : List X) (x : X) (y : Y) → In x xs → In y (f x) → In y (flat_map f xs)
in_flat f [] x y i j = absurd i
in_flat f (z ∷ xs) x y (inl e) j = in_left (f z) (flat_map f xs) y (subst (λ u. In y (f u)) e j)
in_flat f (z ∷ xs) x y (inr i) j = in_right (f z) (flat_map f xs) y (in_flat f xs x y i j)

pub in_flattened : {X Y : Type 0} (f : X → List Y) (xs : List X) (y : Y) → In y (flat_map f xs) → (x : X) × In x xs × In y (f x)
in_flattened f [] y i = absurd i
in_flattened f (x ∷ xs) y i =
    elim (in_either (f x) (flat_map f xs) y i) [
      | inl j ↦ (x, inl refl, j)
      | inr j ↦ (let (z, k, l) = in_flattened f xs y j in (z, inr k, l))
    ]

pub in_any : (xs : List (List ℕ)) (x : List ℕ) → In x xs → list_any (bytes_eq x) xs ≡ true
in_any [] x i = absurd i
in_any (y ∷ ys) x (inl e) = ap (λ b. b || list_any (bytes_eq x) ys) (ap (bytes_eq x) (sym e) ∙ bytes_same x)
in_any (y ∷ ys) x (inr i) = later (bytes_eq x y) (in_any ys x i)
  where
    later : (b : Bool) → list_any (bytes_eq x) ys ≡ true → (b || list_any (bytes_eq x) ys) ≡ true
    later true t = refl
    later false t = t

pub any_in : (xs : List (List ℕ)) (x : List ℕ) → list_any (bytes_eq x) xs ≡ true → In x xs
any_in [] x t = absurd (cc)
any_in (y ∷ ys) x t = by_test (bytes_eq x y) refl t (any_in ys x)
  where
    by_test : (b : Bool) → bytes_eq x y ≡ b → (b || list_any (bytes_eq x) ys) ≡ true → (list_any (bytes_eq x) ys ≡ true → In x ys) → In x (y ∷ ys)
    by_test true e t more = inl (bytes_are x y e)
    by_test false e t more = inr (more t)

pub none_in : (xs : List (List ℕ)) (x : List ℕ) → list_any (bytes_eq x) xs ≡ false → In x xs → ⊥
none_in xs x t i = let u = in_any xs x i in absurd (cc)

pub not_in : (xs : List (List ℕ)) (x : List ℕ) → (In x xs → ⊥) → list_any (bytes_eq x) xs ≡ false
not_in xs x h = by_test (list_any (bytes_eq x) xs) refl
  where
    by_test : (b : Bool) → list_any (bytes_eq x) xs ≡ b → list_any (bytes_eq x) xs ≡ false
    by_test true t = absurd (h (any_in xs x t))
    by_test false t = t

-- ---- by places

pub get_in : {X : Type 0} (xs : List X) (k : ℕ) (x : X) → slice_get xs k ≡ Some x → In x xs
get_in [] k x e = absurd (none-some x e)
get_in (y ∷ ys) zero x e = inl (sym (same_Some y x e))
get_in (y ∷ ys) (suc k) x e = inr (get_in ys k x e)

pub in_get : {X : Type 0} (xs : List X) (x : X) → In x xs → (k : ℕ) × (slice_get xs k ≡ Some x)
in_get [] x i = absurd i
in_get (y ∷ ys) x (inl e) = (zero, ap Some (sym e))
in_get (y ∷ ys) x (inr i) = let (k, e) = in_get ys x i in (suc k, e)

pub in_contains : {X : Type 0} (xs : List X) (x : X) → In x xs → Contains xs x
in_contains [] x i = absurd i
in_contains (y ∷ ys) x (inl e) = (zero, omega arith, sym e)
in_contains (y ∷ ys) x (inr i) = let (k, l, e) = in_contains ys x i in (suc k, omega (arith, l), e)

pub contains_in : {X : Type 0} (xs : List X) (x : X) → Contains xs x → In x xs
contains_in [] x (k, l, e) = absurd (omega (arith, l))
contains_in (y ∷ ys) x (zero, l, e) = inl (sym e)
contains_in (y ∷ ys) x (suc k, l, e) = inr (contains_in ys x (k, omega (arith, l), e))

-- ---- each of a list

pub each_all : {X : Type 0} (P : X → Type 0) (xs : List X) → Each P xs → All P xs
each_all P [] h = All-nil P
each_all P (x ∷ xs) h = All-cons P x xs h.0 (each_all P xs h.1)

pub each_weaker : {X : Type 0} (P Q : X → Type 0) → ((x : X) → P x → Q x) → (xs : List X) → Each P xs → Each Q xs
each_weaker P Q f [] h = tt
each_weaker P Q f (x ∷ xs) h = (f x h.0, each_weaker P Q f xs h.1)

pub each_both : {X : Type 0} (P Q : X → Type 0) (xs : List X) → Each P xs → Each Q xs → Each (λ x. P x × Q x) xs
each_both P Q [] h k = tt
each_both P Q (x ∷ xs) h k = ((h.0, k.0), each_both P Q xs h.1 k.1)

pub each_join : {X : Type 0} (P : X → Type 0) (xs ys : List X) → Each P xs → Each P ys → Each P (xs ++ ys)
each_join P [] ys h k = k
each_join P (x ∷ xs) ys h k = (h.0, each_join P xs ys h.1 k)

pub each_map : {X Y : Type 0} (P : Y → Type 0) (f : X → Y) (xs : List X) → Each (λ x. P (f x)) xs → Each P (map f xs)
each_map P f [] h = tt
each_map P f (x ∷ xs) h = (h.0, each_map P f xs h.1)

pub each_mapped : {X Y : Type 0} (P : Y → Type 0) (f : X → Y) (xs : List X) → Each P (map f xs) → Each (λ x. P (f x)) xs
each_mapped P f [] h = tt
each_mapped P f (x ∷ xs) h = (h.0, each_mapped P f xs h.1)

pub each_flat : {X Y : Type 0} (P : Y → Type 0) (f : X → List Y) (xs : List X) → Each (λ x. Each P (f x)) xs → Each P (flat_map f xs)
each_flat P f [] h = tt
each_flat P f (x ∷ xs) h = each_join P (f x) (flat_map f xs) h.0 (each_flat P f xs h.1)

pub each_from : {X : Type 0} (P : X → Type 0) (xs : List X) → ((x : X) → In x xs → P x) → Each P xs
each_from P [] h = tt
each_from P (x ∷ xs) h = (h x (inl refl), each_from P xs (λ y i. h y (inr i)))

-- ---- lists of which nothing comes

pub none_flat : {X Y : Type 0} (f : X → List Y) (xs : List X) → Each (λ x. f x ≡ []) xs → flat_map f xs ≡ []
none_flat f [] h = refl
none_flat f (x ∷ xs) h = ap (λ ys. ys ++ flat_map f xs) h.0 ∙ none_flat f xs h.1

pub flat_none : {X Y : Type 0} (f : X → List Y) (xs : List X) → flat_map f xs ≡ [] → Each (λ x. f x ≡ []) xs
flat_none f [] e = tt
flat_none f (x ∷ xs) e = (no_left (f x) (flat_map f xs) e, flat_none f xs (no_right (f x) (flat_map f xs) e))

pub unless_not : (b : Bool) (place : ℕ) → b ≡ true → unless b place ≡ []
unless_not true place e = refl
unless_not false place e = absurd (cc)
