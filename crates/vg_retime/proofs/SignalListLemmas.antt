-- Lists whose first elements are done with.
use Rattle.std.proofs.Common.{◌≡◌, ℕ, zero, suc, ◌+◌, ◌<◌, List, [], ◌∷◌, ◌++◌, take, length, get_or, refl, sym, ◌∙◌, subst, arith, inl, inr, All, Option, Some}
use Rattle.std.specs.List.{AllPairs, cons_option, filter_map, flat_map, slice_get}
use Rattle.std.proofs.lemmas.Bool.{cases_lt}
use Rattle.std.proofs.lemmas.List.{length-append, get_or-take, get_or_append_left, get_or_at, take-append-le, take_more, length-take}
use Rattle.std.proofs.lemmas.List.Elements.{All-append}
use Rattle.std.proofs.lemmas.Option.{slice_get_within, get_or_from_slice_get}
use Rattle.std.proofs.lemmas.Int.{clamps}

module _ {X : Type 0} where
  -- what is first stays first
  pub slice_get_stays : (xs ys : List X) (i : ℕ) (x : X) → slice_get xs i ≡ Some x → slice_get (xs ++ ys) i ≡ Some x
  slice_get_stays [] ys i x e = absurd (cc)
  slice_get_stays (y ∷ xs) ys zero x e = e
  slice_get_stays (y ∷ xs) ys (suc i) x e = slice_get_stays xs ys i x e

  -- what holds of the first k elements, by their numbers
  pub of_first : (P : X → Type 0) (k : ℕ) (xs : List X) → All P (take k xs) → (i : ℕ) (x : X) → i < k → slice_get xs i ≡ Some x → P x
  of_first P k xs all i x low e =
      let size = length-take k xs in
      let inside = slice_get_within xs i x e in
      subst P (get_or-take k xs i x low ∙ get_or_from_slice_get xs i x x e) (all i x (omega (arith, clamps, size, inside, low)))

  -- one element more is done with, and others stand behind
  pub take_next : (xs ys : List X) (k : ℕ) (x : X) → slice_get xs k ≡ Some x → take (k + 1) (xs ++ ys) ≡ take k xs ++ x ∷ []
  take_next xs ys k x e =
      let low = slice_get_within xs k x e in
      take_more (xs ++ ys) k x (omega (arith, low, length-append xs ys))
      ∙ (λ i. take-append-le k xs ys (omega (arith, low)) i ++ (get_or_append_left xs ys x k low ∙ get_or_from_slice_get xs k x x e) i ∷ [])

  pub all_next : (P : X → Type 0) (xs : List X) (x : X) → All P xs → P x → All P (xs ++ x ∷ [])
  all_next P xs x all here = All-append P xs (x ∷ []) all (one here)
    where
      one : P x → All P (x ∷ [])
      one p zero d h = p
      one p (suc k) d h = absurd (omega arith)

  -- a last element that differs from all before it
  pub pairs_next : (R : X → X → Type 0) (xs : List X) (x : X) → AllPairs R xs → All (λ y. R y x) xs → AllPairs R (xs ++ x ∷ [])
  pairs_next R xs x pairs all i j d i_j j_n =
      elim (cases_lt j (length xs)) [
        | inl low ↦
            subst (λ (y : X). R y (get_or (xs ++ x ∷ []) j d)) (sym (get_or_append_left xs (x ∷ []) d i (omega arith)))
            (subst (λ (y : X). R (get_or xs i d) y) (sym (get_or_append_left xs (x ∷ []) d j low)) (pairs i j d i_j low))
        | inr high ↦
            let size = length-append xs (x ∷ []) in
            let last : j ≡ length xs = omega (arith, size, j_n, high) in
            subst (λ (y : X). R y (get_or (xs ++ x ∷ []) j d)) (sym (get_or_append_left xs (x ∷ []) d i (omega arith)))
            (subst (λ (y : X). R (get_or xs i d) y) (sym (get_or_at xs x [] d j (sym last))) (all i d (omega arith)))
      ]

module _ {X Y : Type 0} where
  pub flat_map_same : (f g : X → List Y) (xs : List X) → All (λ x. f x ≡ g x) xs → flat_map f xs ≡ flat_map g xs
  flat_map_same f g [] all = refl
  flat_map_same f g (x ∷ xs) all = λ i. all 0 x (omega arith) i ++ flat_map_same f g xs (λ k d h. all (suc k) d (omega arith)) i

  pub filter_map_same : (f g : X → Option Y) (xs : List X) → All (λ x. f x ≡ g x) xs → filter_map f xs ≡ filter_map g xs
  filter_map_same f g [] all = refl
  filter_map_same f g (x ∷ xs) all =
      λ i. cons_option (all 0 x (omega arith) i) (filter_map_same f g xs (λ k d h. all (suc k) d (omega arith)) i)
