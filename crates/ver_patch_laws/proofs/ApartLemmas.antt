-- Lists in which nothing stands twice.
use Rattle.std.proofs.Common.{◌≡◌, ℕ, zero, suc, ◌<◌, not, List, [], ◌∷◌, ◌++◌, map, length, get_or, cond, refl, sym, ap, ◌∙◌, subst, arith, inl, inr}
use Rattle.std.specs.Prelude.{⊤}
use Rattle.std.specs.List.{flat_map, list_any}
use Rattle.std.specs.Str.{bytes_eq}
use Rattle.name_tables.specs.Distinct.{AreNew, with_name}
use Rattle.ver_file.specs.Flaws.{Named, repeated, unless}
use Rattle.ver_file.proofs.FlawLemmas.{next_repeated, none_repeated}
use Rattle.ver_file.proofs.NetLemmas.{no_left, no_right, not_any, passes}
use Rattle.ver_patch_laws.proofs.RelinkedLemmas.{In}
use Rattle.ver_patch_laws.proofs.SetLemmas.{in_either, in_flattened, in_left, in_map, in_mapped, in_right, none_in, not_in}

-- nothing of a list stands in it twice
abbrev pub Apart : {X : Type 0} → List X → Type 0
Apart [] = ⊤
Apart (x ∷ xs) = (In x xs → ⊥) × Apart xs

pub apart_new : (names before : List (List ℕ)) → Apart names → ((n : List ℕ) → In n before → In n names → ⊥) → AreNew before names
apart_new [] before h k = tt
apart_new (n ∷ ns) before h k = (
  not_in before n (λ i. k n i (inl refl)),
  apart_new ns (before ++ n ∷ []) h.1 (λ m i j. elim (in_either before (n ∷ []) m i) as (λ _. ⊥) [
    | inl l ↦ k m l (inr j)
    | inr (inl e) ↦ h.0 (subst (λ x. In x ns) e j)
    | inr (inr l) ↦ l
  ]),
)

pub new_apart : (names before : List (List ℕ)) → AreNew before names → Apart names × ((n : List ℕ) → In n before → In n names → ⊥)
new_apart [] before h = (tt, λ n i j. j)
new_apart (n ∷ ns) before h =
    let (apart, other) = new_apart ns (before ++ n ∷ []) h.1 in (
      (λ i. other n (in_right before (n ∷ []) n (inl refl)) i, apart),
      λ m i j. elim j as (λ _. ⊥) [ inl e ↦ none_in before n h.0 (subst (λ x. In x before) e i) | inr l ↦ other m (in_left before (n ∷ []) m i) l ],
    )

pub apart_map : {X Y : Type 0} (f : X → Y) (xs : List X) → Apart xs → ((x y : X) → In x xs → In y xs → f x ≡ f y → x ≡ y) → Apart (map f xs)
apart_map f [] h k = tt
apart_map f (x ∷ xs) h k = (
  λ i. (let (y, j, e) = in_mapped f xs (f x) i in h.0 (subst (λ u. In u xs) (sym (k x y (inl refl) (inr j) e)) j)),
  apart_map f xs h.1 (λ y z i j e. k y z (inr i) (inr j) e),
)

pub apart_join : {X : Type 0} (xs ys : List X) → Apart xs → Apart ys → ((x : X) → In x xs → In x ys → ⊥) → Apart (xs ++ ys)
apart_join [] ys h k n = k
apart_join (x ∷ xs) ys h k n = (
  λ i. elim (in_either xs ys x i) as (λ _. ⊥) [ inl j ↦ h.0 j | inr j ↦ n x (inl refl) j ],
  apart_join xs ys h.1 k (λ z i j. n z (inr i) j),
)

-- parts with different keys
pub apart_flat : {X Y Z : Type 0} (key : X → Z) (own : Y → Z) (f : X → List Y) (xs : List X) → ((x : X) → Apart (f x)) → ((x : X) (y : Y) → In y (f x) → own y ≡ key x)
    → Apart (map key xs) → Apart (flat_map f xs)
apart_flat key own f [] h k a = tt
apart_flat key own f (x ∷ xs) h k a =
    apart_join (f x) (flat_map f xs) (h x) (apart_flat key own f xs h k a.1)
    (λ y i j. (let (z, l, m) = in_flattened f xs y j in a.0 (subst (λ u. In u (map key xs)) (sym (k z y m) ∙ k x y i) (in_map key xs z l))))

-- what differs at different places
pub apart_places : {X : Type 0} (xs : List X) (d : X) → ((i j : ℕ) → i < j → j < length xs → get_or xs i d ≡ get_or xs j d → ⊥) → Apart xs
apart_places {X = X} [] d h = tt
apart_places {X = X} (x ∷ xs) d h = (
  λ i. (let (k, l, e) = place_of xs x i in h zero (suc k) (omega arith) (omega (arith, l)) (sym e)),
  apart_places xs d (λ i j less low e. h (suc i) (suc j) (omega (arith, less)) (omega (arith, low)) e),
)
  where
    place_of : (ys : List X) (y : X) → In y ys → (k : ℕ) × (k < length ys) × (get_or ys k d ≡ y)
    place_of [] y i = absurd i
    place_of (z ∷ ys) y (inl e) = (zero, omega arith, sym e)
    place_of (z ∷ ys) y (inr i) = let (k, l, e) = place_of ys y i in (suc k, omega (arith, l), e)

-- ---- names that are given once

pub once_new : (ns : List Named) (before : List (List ℕ)) → repeated before ns ≡ [] → AreNew before (map (λ n. n.name) ns)
once_new [] before e = tt
once_new (n ∷ ns) before e =
    let both = sym (next_repeated before n ns) ∙ e in
    let new = not_any (list_any (bytes_eq n.name) before) (passes (not (list_any (bytes_eq n.name) before)) n.place (no_left (unless (not (list_any (bytes_eq n.name) before)) n.place) (repeated (with_name before n.name) ns) both)) in
    let put : with_name before n.name ≡ before ++ n.name ∷ [] = ap (λ b. cond b before (before ++ n.name ∷ [])) new in
    (new, once_new ns (before ++ n.name ∷ []) (ap (λ names. repeated names ns) (sym put) ∙ no_right (unless (not (list_any (bytes_eq n.name) before)) n.place) (repeated (with_name before n.name) ns) both))

pub new_once : (ns : List Named) (before : List (List ℕ)) → AreNew before (map (λ n. n.name) ns) → repeated before ns ≡ []
new_once [] before h = none_repeated before
new_once (n ∷ ns) before h =
    let put : with_name before n.name ≡ before ++ n.name ∷ [] = ap (λ b. cond b before (before ++ n.name ∷ [])) h.0 in
    next_repeated before n ns ∙ (λ i. unless (not (h.0 i)) n.place ++ repeated (put i) ns) ∙ new_once ns (before ++ n.name ∷ []) h.1
