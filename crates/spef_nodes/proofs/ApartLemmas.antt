-- Lists in which no node stands twice.
use Rattle.std.proofs.Common.{◌≡◌, ℕ, zero, suc, Bool, true, false, ◌||◌, cond, List, [], ◌∷◌, ◌++◌, refl, sym, ap, ◌∙◌, Some}
use Rattle.std.proofs.lemmas.Slice.Eq.{bytes_eq-Decides}
use Rattle.std.specs.List.{slice_get, fold}
use Rattle.std.specs.Str.{bytes_eq}
use Rattle.vg_scan.specs.declared.name.NodeName.{NodeName}
use Rattle.vg_scan.specs.Nodes.{same_node, has_node}
use Rattle.spef_nodes.specs.Members.{with_node, AreApart}
use Rattle.spef_nodes.proofs.NodeListLemmas.{same_is, any-last}

or_left : (a b : Bool) → (a || b) ≡ false → a ≡ false
or_left true b e = e
or_left false b e = refl

or_right : (a b : Bool) → (a || b) ≡ false → b ≡ false
or_right true b e = absurd (cc)
or_right false b e = e

none : (a b : Bool) → a ≡ false → b ≡ false → (a || b) ≡ false
none true b e f = e
none false b e f = f

some : (a b : Bool) → b ≡ true → (a || b) ≡ true
some true b e = refl
some false b e = e

flip : (a b : NodeName) (t : Bool) → same_node b a ≡ t → same_node a b ≡ false → t ≡ false
flip a b false e f = refl
flip a b true e f = (let p = same_is b a e in let q : same_node b a ≡ same_node a b = λ i. same_node (p i) (sym p i) in sym e ∙ q ∙ f)

apart_last : (xs : List NodeName) (y : NodeName) → AreApart xs → has_node xs y ≡ false → AreApart (xs ++ y ∷ [])
apart_last [] y h f = (refl, tt)
apart_last (x ∷ xs) y h f = (
  any-last (same_node x) xs y ∙ none (has_node xs x) (same_node x y) h.0 (flip y x (same_node x y) refl (or_left (same_node y x) (has_node xs y) f)),
  apart_last xs y h.1 (or_right (same_node y x) (has_node xs y) f),
)

pub apart_if : (b : Bool) (xs : List NodeName) (y : NodeName) → has_node xs y ≡ b → AreApart xs → AreApart (cond b xs (xs ++ y ∷ []))
apart_if true xs y e h = h
apart_if false xs y e h = apart_last xs y h e

pub apart_fold : (ys xs : List NodeName) → AreApart xs → AreApart (fold with_node xs ys)
apart_fold [] xs h = h
apart_fold (y ∷ ys) xs h = apart_fold ys (with_node xs y) (apart_if (has_node xs y) xs y refl h)

some_is : {A : Type 0} (a b : A) → Some a ≡ Some b → a ≡ b
some_is a b e = cc

same_eq : (a b : NodeName) → a ≡ b → same_node a b ≡ true
same_eq a b p =
    let e : bytes_eq a.owner b.owner ≡ true = (bytes_eq-Decides a.owner b.owner).1 (ap (λ n. n.owner) p) in
    let f : bytes_eq a.leaf b.leaf ≡ true = (bytes_eq-Decides a.leaf b.leaf).1 (ap (λ n. n.leaf) p) in
    rw (e, f) refl

pub has_at : (xs : List NodeName) (i : ℕ) (x : NodeName) → slice_get xs i ≡ Some x → has_node xs x ≡ true
has_at [] i x e = absurd (cc)
has_at (y ∷ xs) zero x e = ap (λ t. t || has_node xs x) (same_eq x y (sym (some_is y x e)))
has_at (y ∷ xs) (suc i) x e = some (same_node x y) (has_node xs x) (has_at xs i x e)

-- the first node of a list is no later one
never : (y : NodeName) (xs : List NodeName) (j : ℕ) (x : NodeName) → has_node xs y ≡ false → Some y ≡ Some x → slice_get xs j ≡ Some x → ⊥
never y xs j x h e f = (let k : true ≡ false = sym (has_at xs j x f) ∙ ap (has_node xs) (sym (some_is y x e)) ∙ h in absurd (cc))

pub one_number : (xs : List NodeName) (i j : ℕ) (x : NodeName) → AreApart xs → slice_get xs i ≡ Some x → slice_get xs j ≡ Some x → i ≡ j
one_number [] i j x h e f = absurd (cc)
one_number (y ∷ xs) zero zero x h e f = refl
one_number (y ∷ xs) zero (suc j) x h e f = absurd (never y xs j x h.0 e f)
one_number (y ∷ xs) (suc i) zero x h e f = absurd (never y xs i x h.0 f e)
one_number (y ∷ xs) (suc i) (suc j) x h e f = ap suc (one_number xs i j x h.1 e f)
