-- Lists.
use Rattle.std.proofs.Common.{◌≡◌, ℕ, zero, suc, ◌+◌, Bool, true, false, cond, List, [], ◌∷◌, ◌++◌, flat_map, map, set, slice_get, take, Some, refl, sym, ap, ◌∙◌, subst, arith, append_assoc}
use Rattle.std.specs.List.{All, prefix_len, take_while}
use Rattle.std.specs.Str.{bytes_eq}
use Rattle.std.proofs.lemmas.List.Elements.{All-append, All-cons, All-head, All-nil, All-tail, All-take}
use Rattle.std.proofs.lemmas.Slice.Eq.{bytes_eq-Decides}

pub All-flat_map : {X Y : Type 0} (P : Y → Type 0) (Q : X → Type 0) (f : X → List Y) → ((x : X) → Q x → All P (f x)) → (xs : List X) → All Q xs → All P (flat_map f xs)
All-flat_map P Q f h [] a = All-nil P
All-flat_map P Q f h (x ∷ xs) a = All-append P (f x) (flat_map f xs) (h x (All-head Q x xs a)) (All-flat_map P Q f h xs (All-tail Q x xs a))

pub flat_map-append : {X Y : Type 0} (f : X → List Y) (xs ys : List X) → flat_map f (xs ++ ys) ≡ flat_map f xs ++ flat_map f ys
flat_map-append f [] ys = refl
flat_map-append f (x ∷ xs) ys = ap (λ zs. f x ++ zs) (flat_map-append f xs ys) ∙ sym (append_assoc (f x) (flat_map f xs) (flat_map f ys))

pub flat_map-flat_map : {X Y Z : Type 0} (g : Y → List Z) (f : X → List Y) (xs : List X) → flat_map g (flat_map f xs) ≡ flat_map (λ x. flat_map g (f x)) xs
flat_map-flat_map g f [] = refl
flat_map-flat_map g f (x ∷ xs) = flat_map-append g (f x) (flat_map f xs) ∙ ap (λ zs. flat_map g (f x) ++ zs) (flat_map-flat_map g f xs)

pub bytes_same : (xs : List ℕ) → bytes_eq xs xs ≡ true
bytes_same xs = (bytes_eq-Decides xs xs).1 refl

pub bytes_are : (xs ys : List ℕ) → bytes_eq xs ys ≡ true → xs ≡ ys
bytes_are xs ys t = (bytes_eq-Decides xs ys).0 t

pub All-take_while : {X : Type 0} (P : X → Type 0) (p : X → Bool) (xs : List X) → All P xs → All P (take_while p xs)
All-take_while P p xs a = All-take P (prefix_len p xs) xs a

pub passes_while : {X : Type 0} (p : X → Bool) (xs : List X) → All (λ x. p x ≡ true) (take_while p xs)
passes_while {X = X} p [] = All-nil (λ (x : X). p x ≡ true)
passes_while {X = X} p (x ∷ xs) = by_test (p x) refl (passes_while p xs)
  where
    more : (n : ℕ) → take (1 + n) (x ∷ xs) ≡ x ∷ take n xs
    more n = let e : 1 + n ≡ suc n = omega arith in ap (λ k. take k (x ∷ xs)) e

    by_test : (b : Bool) → p x ≡ b → All (λ (y : X). p y ≡ true) (take_while p xs) → All (λ (y : X). p y ≡ true) (take (cond b (1 + prefix_len p xs) 0) (x ∷ xs))
    by_test true t rest =
        subst (λ (ys : List X). All (λ (y : X). p y ≡ true) ys) (sym (more (prefix_len p xs))) (All-cons (λ (y : X). p y ≡ true) x (take_while p xs) t rest)
    by_test false t rest = All-nil (λ (y : X). p y ≡ true)

-- ---- one element changes

map_same : {X Y : Type 0} (f g : X → Y) (xs : List X) → ((at : ℕ) (x : X) → slice_get xs at ≡ Some x → f x ≡ g x) → map f xs ≡ map g xs
map_same f g [] h = refl
map_same f g (x ∷ xs) h = λ i. h 0 x refl i ∷ map_same f g xs (λ at y e. h (suc at) y e) i

-- another function of one element, and the same of each other one
pub set_map : {X Y : Type 0} (f g : X → Y) (xs : List X) (id : ℕ) (x : X) → slice_get xs id ≡ Some x
    → ((at : ℕ) (y : X) → slice_get xs at ≡ Some y → (at ≡ id → ⊥) → f y ≡ g y) → set (map f xs) id (g x) ≡ map g xs
set_map f g [] id x e h = absurd (cc)
set_map f g (z ∷ zs) zero x e h =
    let same : x ≡ z = cc in
    λ i. g (same i) ∷ map_same f g zs (λ at y l. h (suc at) y l (λ none. absurd (omega (arith, none)))) i
set_map f g (z ∷ zs) (suc id) x e h =
    λ i. h 0 z refl (λ none. absurd (omega (arith, none))) i ∷ set_map f g zs id x e (λ at y l other. h (suc at) y l (λ same. other (omega (arith, same)))) i
