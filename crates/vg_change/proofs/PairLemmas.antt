-- What is true of all, and of each and each later one, of lists that are put together.
use Rattle.std.proofs.Common.{◌≡◌, ℕ, zero, suc, ◌+◌, ◌<◌, List, [], ◌∷◌, ◌++◌, length, get_or, sym, ap, ◌∙◌, subst, arith}
use Rattle.std.specs.List.{All, AllPairs, Contains, flat_map}
use Rattle.std.proofs.lemmas.List.Elements.{All-append}
use Rattle.std.proofs.lemmas.List.Kept.{AllPairs-cons}

pub of_all : {X : Type 0} (P : X → Type 0) (xs : List X) (x : X) → All P xs → Contains xs x → P x
of_all P xs x all (i, low, at) = subst P at (all i x low)

later : {X : Type 0} (y : X) (xs : List X) (x : X) → Contains xs x → Contains (y ∷ xs) x
later y xs x (i, low, at) = (suc i, omega (arith, low), at)

pub all_flat : {X Y : Type 0} (P : Y → Type 0) (f : X → List Y) (xs : List X) → ((x : X) → Contains xs x → All P (f x)) → All P (flat_map f xs)
all_flat P f [] each = λ i d low. absurd (omega (arith, low))
all_flat P f (x ∷ xs) each = All-append P (f x) (flat_map f xs) (each x (0, omega arith, Rattle.std.proofs.Common.refl)) (all_flat P f xs (λ y there. each y (later x xs y there)))

pub pairs_both : {X : Type 0} (R : X → X → Type 0) (xs ys : List X) → AllPairs R xs → AllPairs R ys → ((a : X) → Contains xs a → All (R a) ys) → AllPairs R (xs ++ ys)
pairs_both R [] ys front back across = back
pairs_both R (x ∷ xs) ys front back across =
    AllPairs-cons R x (xs ++ ys)
    (All-append (R x) xs ys (λ j d low. front 0 (suc j) d (omega arith) (omega (arith, low))) (across x (0, omega arith, Rattle.std.proofs.Common.refl)))
    (pairs_both R xs ys (λ i j d less low. front (suc i) (suc j) d (omega (arith, less)) (omega (arith, low))) back (λ a there. across a (later x xs a there)))

pub pairs_flat : {X Y : Type 0} (R : Y → Y → Type 0) (f : X → List Y) (xs : List X) → ((x : X) → Contains xs x → AllPairs R (f x))
    → AllPairs (λ x y. (a : Y) → Contains (f x) a → All (R a) (f y)) xs → AllPairs R (flat_map f xs)
pairs_flat R f [] each across = λ i j d less low. absurd (omega (arith, low))
pairs_flat R f (x ∷ xs) each across =
    pairs_both R (f x) (flat_map f xs) (each x (0, omega arith, Rattle.std.proofs.Common.refl))
    (pairs_flat R f xs (λ y there. each y (later x xs y there)) (λ i j d less low. across (suc i) (suc j) d (omega (arith, less)) (omega (arith, low))))
    (λ a here. all_flat (R a) f xs (λ y (j, low, at). subst (λ z. All (R a) (f z)) at (across 0 (suc j) y (omega arith) (omega (arith, low)) a here)))
