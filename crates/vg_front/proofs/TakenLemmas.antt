-- What stands in a part of a list.
use Rattle.std.proofs.Common.{◌≡◌, ◌⊎◌, ℕ, ◌+◌, ◌-◌, ◌<◌, ◌≤◌, List, [], ◌∷◌, length, take, get_or, sym, ap, ◌∙◌, subst, arith, inl, inr}
use Rattle.std.proofs.lemmas.Bool.{cases_lt}
use Rattle.std.proofs.lemmas.List.{length-take, get_or-take, take_more}
use Rattle.std.proofs.lemmas.List.Edits.{length-between, get_or-between}
use Rattle.std.proofs.lemmas.List.Elements.{Contains-append_left, Contains-push, Contains-push_cases}
use Rattle.std.specs.List.{Contains, between}

pub of_between : {X : Type 0} (xs : List X) (from end : ℕ) (x : X) → end ≤ length xs → Contains (between from end xs) x
    → (k : ℕ) × (from ≤ k) × (k < end) × (get_or xs k x ≡ x)
of_between xs from end x within (k, k_n, e) =
    let low : k < end - from = omega (arith, k_n, length-between xs from end within) in
    (from + k, omega arith, omega (arith, low), sym (get_or-between xs from end k x (omega (arith, low))) ∙ e)

pub in_between : {X : Type 0} (xs : List X) (from end k : ℕ) (x : X) → end ≤ length xs → from ≤ k → k < end → get_or xs k x ≡ x
    → Contains (between from end xs) x
in_between xs from end k x within low high e =
    let at : from + (k - from) ≡ k = omega (arith, low) in (
      k - from,
      omega (arith, length-between xs from end within, low, high),
      get_or-between xs from end (k - from) x (omega (arith, low, high))
          ∙ ap (λ (n : ℕ). get_or xs n x) at ∙ e,
    )

pub in_take : {X : Type 0} (xs : List X) (n k : ℕ) (x : X) → n ≤ length xs → k < n → get_or xs k x ≡ x → Contains (take n xs) x
in_take xs n k x within low e = (k, omega (arith, low, length-take n xs), get_or-take n xs k x low ∙ e)

pub of_take : {X : Type 0} (xs : List X) (n : ℕ) (x : X) → n ≤ length xs → Contains (take n xs) x → (k : ℕ) × (k < n) × (get_or xs k x ≡ x)
of_take xs n x within (k, k_n, e) =
    let low : k < n = omega (arith, k_n, length-take n xs) in (k, low, sym (get_or-take n xs k x low) ∙ e)

pub more_taken : {X : Type 0} (xs : List X) (from end : ℕ) (x : X) → from ≤ end → end ≤ length xs → Contains (take from xs) x → Contains (take end xs) x
more_taken xs from end x order within found =
    let (k, low, e) = of_take xs from x (omega (arith, order, within)) found in in_take xs end k x within (omega (arith, low, order)) e

pub between_taken : {X : Type 0} (xs : List X) (from end : ℕ) (x : X) → end ≤ length xs → Contains (between from end xs) x → Contains (take end xs) x
between_taken xs from end x within found = let (k, low, high, e) = of_between xs from end x within found in in_take xs end k x within high e

pub taken_cases : {X : Type 0} (xs : List X) (from end : ℕ) (x : X) → from ≤ end → end ≤ length xs → Contains (take end xs) x
    → Contains (take from xs) x ⊎ Contains (between from end xs) x
taken_cases xs from end x order within found =
    let (k, high, e) = of_take xs end x within found in
    elim (cases_lt k from) [
      | inl low ↦ inl (in_take xs from k x (omega (arith, order, within)) low e)
      | inr late ↦ inr (in_between xs from end k x within late high e)
    ]

pub between_in : {X : Type 0} (xs : List X) (from end : ℕ) (x : X) → end ≤ length xs → Contains (between from end xs) x → Contains xs x
between_in xs from end x within found = let (k, low, high, e) = of_between xs from end x within found in (k, omega (arith, high, within), e)

-- ONE MORE
module _ {X : Type 0} (xs : List X) (k : ℕ) (d : X) (inside : k < length xs) where
  pub still_taken : (y : X) → Contains (take k xs) y → Contains (take (k + 1) xs) y
  still_taken y found = subst (λ (l : List X). Contains l y) (sym (take_more xs k d inside)) (Contains-append_left (take k xs) (get_or xs k d ∷ []) y found)

  pub now_taken : Contains (take (k + 1) xs) (get_or xs k d)
  now_taken = subst (λ (l : List X). Contains l (get_or xs k d)) (sym (take_more xs k d inside)) (Contains-push (take k xs) (get_or xs k d))

  pub taken_one : (y : X) → Contains (take (k + 1) xs) y → Contains (take k xs) y ⊎ (get_or xs k d ≡ y)
  taken_one y found = Contains-push_cases (take k xs) (get_or xs k d) y (subst (λ (l : List X). Contains l y) (take_more xs k d inside) found)
