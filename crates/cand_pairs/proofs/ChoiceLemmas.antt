-- What holds of the numbers in a list: choices, sums and the least value.
use Rattle.std.proofs.Common.{◌≡◌, ◌⊎◌, ℕ, zero, suc, ◌+◌, ◌≤◌, Bool, true, false, not, cond, List, [], ◌∷◌, refl, arith, inl, inr, ℤ, ◌≤ℤ◌, int_lt}
use Rattle.std.proofs.lemmas.Bool.{cases_eq, cases_Bool}
use Rattle.std.proofs.lemmas.Int.{ints}
use Rattle.std.proofs.lemmas.List.Sums.{sum_by-cons}
use Rattle.std.specs.List.{Contains, filter, sum_by}
use Rattle.elmore.proofs.SumLemmas.{sum_of_filter, sum_of_both, sum_of_same}
use Rattle.cand_pairs.proofs.ChildLemmas.{in_cons}

pub in_list_cases : (y : ℕ) (xs : List ℕ) (x : ℕ) → Contains (y ∷ xs) x → (y ≡ x) ⊎ Contains xs x
in_list_cases y xs x (zero, k_n, e) = inl e
in_list_cases y xs x (suc k, k_n, e) = inr (k, omega arith, e)

pub in_list : (xs : List ℕ) (x : ℕ) → Contains xs x ⊎ (Contains xs x → ⊥)
in_list [] x = inr (λ (k, k_n, e). absurd (omega arith))
in_list (y ∷ xs) x =
    elim (cases_eq y x) [
      | inl e ↦ inl (0, omega arith, e)
      | inr other ↦ elim (in_list xs x) [
        | inl found ↦ inl (in_cons y xs x found)
        | inr out ↦ inr (λ found. elim (in_list_cases y xs x found) [
          | inl e ↦ other e
          | inr later ↦ out later
        ])
      ]
    ]

-- something for each number of a list is a function
pub choose : {X : Type 0} (xs : List ℕ) (P : ℕ → X → Type 0) (d : ℕ → X) → ((u : ℕ) → Contains xs u → (x : X) × P u x)
    → (u : ℕ) → (x : X) × (Contains xs u → P u x)
choose {X} xs P d each u =
    elim (in_list xs u) [
      | inl found ↦ let (x, is) = each u found in (x, λ _. is)
      | inr out ↦ (d u, λ found. absurd (out found))
    ]

pub sum_alike_in : (f g : ℕ → ℕ) (xs : List ℕ) → ((u : ℕ) → Contains xs u → f u ≡ g u) → sum_by f xs ≡ sum_by g xs
sum_alike_in f g [] alike = refl
sum_alike_in f g (x ∷ xs) alike =
    omega (
      arith,
      sum_by-cons f x xs,
      sum_by-cons g x xs,
      alike x (0, omega arith, refl),
      sum_alike_in f g xs (λ u found. alike u (in_cons x xs u found)),
    )

pub sum_le_in : (f g : ℕ → ℕ) (xs : List ℕ) → ((u : ℕ) → Contains xs u → f u ≤ g u) → sum_by f xs ≤ sum_by g xs
sum_le_in f g [] less = omega arith
sum_le_in f g (x ∷ xs) less =
    omega (
      arith,
      sum_by-cons f x xs,
      sum_by-cons g x xs,
      less x (0, omega arith, refl),
      sum_le_in f g xs (λ u found. less u (in_cons x xs u found)),
    )

-- those that pass a test, and the others
pub sum_of_parts : (f : ℕ → ℕ) (test : ℕ → Bool) (xs : List ℕ) → sum_by f xs ≡ sum_by f (filter test xs) + sum_by f (filter (λ u. not (test u)) xs)
sum_of_parts f test xs =
    omega (
      arith,
      sum_of_filter f test xs,
      sum_of_filter f (λ (u : ℕ). not (test u)) xs,
      sum_of_both (λ (u : ℕ). cond (test u) (f u) 0) (λ (u : ℕ). cond (not (test u)) (f u) 0) xs,
      sum_of_same f (λ (u : ℕ). cond (test u) (f u) 0 + cond (not (test u)) (f u) 0) xs (λ u. either (test u) (f u)),
    )
  where
    either : (b : Bool) (k : ℕ) → k ≡ cond b k 0 + cond (not b) k 0
    either true k = omega arith
    either false k = omega arith

-- the least value in a list
pub record IsLeastIn (f : ℕ → ℤ) (xs : List ℕ) (q : ℤ) : Type 0 where
  pub least : (u : ℕ) → Contains xs u → q ≤ℤ f u
  pub met : (u : ℕ) × Contains xs u × (q ≡ f u)

pub least_in : (f : ℕ → ℤ) (xs : List ℕ) → ((u : ℕ) → Contains xs u → ⊥) ⊎ ((q : ℤ) × IsLeastIn f xs q)
least_in f [] = inl (λ u (k, k_n, e). absurd (omega arith))
least_in f (x ∷ xs) =
    elim (least_in f xs) [
      | inl none ↦ inr (
        f x,
        record {
          least = λ u found. elim (in_list_cases x xs u found) [
            | inl e ↦ rw e (omega (arith, ints))
            | inr later ↦ absurd (none u later)
          ];
          met = (x, (0, omega arith, refl), refl);
        },
      )
      | inr (q, is) ↦ elim (cases_Bool (int_lt q (f x))) [
        | inl less ↦ inr (
          q,
          record {
            least = λ u found. elim (in_list_cases x xs u found) [
              | inl e ↦ rw (← e) (omega (arith, ints))
              | inr later ↦ is.least u later
            ];
            met = let (u, found, e) = is.met in (u, in_cons x xs u found, e);
          },
        )
        | inr more ↦ inr (
          f x,
          record {
            least = λ u found. elim (in_list_cases x xs u found) [
              | inl e ↦ rw (← e) (omega (arith, ints))
              | inr later ↦ omega (arith, ints, is.least u later)
            ];
            met = (x, (0, omega arith, refl), refl);
          },
        )
      ]
    ]
