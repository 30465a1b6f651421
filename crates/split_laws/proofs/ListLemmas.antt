-- Lists: what passes first, what passes at all, and as many distinct numbers.
use Rattle.std.proofs.Common.{◌≡◌, ◌≢◌, ℕ, zero, suc, ◌<◌, ◌≤◌, Bool, true, false, cond, List, [], ◌∷◌, length, get_or, slice_index, unwrap_or, sym, ap, ◌∙◌, subst, arith, inl, inr, Some, None}
use Rattle.std.specs.Prelude.{nat_lt}
use Rattle.std.specs.List.{filter, find, position, position_or_len, All, AllPairs, Contains}
use Rattle.std.proofs.lemmas.Bool.{cases_lt, false≢true}
use Rattle.std.proofs.lemmas.Bool.Decides.{nat_tests}
use Rattle.std.proofs.lemmas.List.{get_or_default}
use Rattle.std.proofs.lemmas.List.Folds.{find_at}
use Rattle.std.proofs.lemmas.List.Sums.{fails_before_first, passes_at_first}
use Rattle.std.proofs.lemmas.Option.{unwrap_or-slice_get}
use Rattle.rc_tree.proofs.PigeonholeLemmas.{each_hit}

-- ---- what passes first

first_low : {X : Type 0} (p : X → Bool) (xs : List X) (i : ℕ) (d : X) → i < length xs → p (get_or xs i d) ≡ true → position_or_len p xs < length xs
first_low p xs i d low pass = elim (cases_lt i (position_or_len p xs)) [
  | inl less ↦ absurd (false≢true (sym (fails_before_first p xs i d less) ∙ pass))
  | inr early ↦ omega (arith, early, low)
]

-- the first place where something passes, if it does anywhere
pub record IsFirstPlace {X : Type 0} (p : X → Bool) (xs : List X) (d : X) : Type 0 where
  pub low : unwrap_or (position p xs) 0 < length xs
  pub passes : p (get_or xs (unwrap_or (position p xs) 0) d) ≡ true

pub first_place : {X : Type 0} (p : X → Bool) (xs : List X) (i : ℕ) (d : X) → i < length xs → p (get_or xs i d) ≡ true → IsFirstPlace p xs d
first_place p xs i d low pass =
    let n = position_or_len p xs in
    let within : n < length xs = first_low p xs i d low pass in
    let test : nat_lt n (length xs) ≡ true = grind (arith, nat_tests) in
    let e : unwrap_or (position p xs) 0 ≡ n = ap (λ b. unwrap_or (cond b (Some n) None) 0) test in
    record { low = omega (arith, e, within); passes = ap (λ m. p (get_or xs m d)) e ∙ passes_at_first p xs d within }

-- and what stands there
pub record IsFirst {X : Type 0} (p : X → Bool) (xs : List X) (d : X) : Type 0 where
  pub there : Contains xs (unwrap_or (find p xs) d)
  pub passes : p (unwrap_or (find p xs) d) ≡ true

pub first : {X : Type 0} (p : X → Bool) (xs : List X) (x d : X) → Contains xs x → p x ≡ true → IsFirst p xs d
first p xs x d (i, low, is) pass =
    let n = position_or_len p xs in
    let within : n < length xs = first_low p xs i x low (ap p is ∙ pass) in
    let e : unwrap_or (find p xs) d ≡ get_or xs n d = ap (λ o. unwrap_or o d) (find_at p xs) ∙ unwrap_or-slice_get xs n d in
    record {
      there = (n, within, get_or_default xs n (unwrap_or (find p xs) d) d within ∙ sym e);
      passes = ap p e ∙ passes_at_first p xs d within;
    }

-- ---- what passes

pub contains_later : {X : Type 0} (y : X) (xs : List X) (x : X) → Contains xs x → Contains (y ∷ xs) x
contains_later y xs x (i, low, is) = (suc i, omega (arith, low), is)

pub contains_filter : {X : Type 0} (p : X → Bool) (xs : List X) (x : X) → Contains xs x → p x ≡ true → Contains (filter p xs) x
contains_filter p [] x (i, low, is) pass = absurd (omega (arith, low))
contains_filter p (y ∷ ys) x (zero, low, is) pass =
    subst (λ b. Contains (cond b (y ∷ filter p ys) (filter p ys)) x) (sym (ap p is ∙ pass)) (0, omega arith, is)
contains_filter p (y ∷ ys) x (suc i, low, is) pass = at (p y) (contains_filter p ys x (i, omega (arith, low), is) pass)
  where
    at : (b : Bool) → Contains (filter p ys) x → Contains (cond b (y ∷ filter p ys) (filter p ys)) x
    at true there = contains_later y (filter p ys) x there
    at false there = there

-- of rising numbers the least stands first
pub least_first : (ws : List ℕ) (v : ℕ) → AllPairs (λ a b. a < b) ws → Contains ws v → All (λ w. v ≤ w) ws → slice_index ws 0 ≡ v
least_first ws v rise (zero, low, is) least = get_or_default ws 0 0 v low ∙ is
least_first ws v rise (suc i, low, is) least =
    absurd (omega (arith, rise 0 (suc i) v (omega arith) low, is, least 0 v (omega (arith, low))))

-- no fewer numbers are below n, where there is a distinct one for each below m
pub no_fewer : (m n : ℕ) (f : ℕ → ℕ) → ((i : ℕ) → i < m → f i < n) → ((i k : ℕ) → i < k → k < m → f i ≢ f k) → m ≤ n
no_fewer m n f within apart = elim (cases_lt n m) [
  | inl less ↦
      let (i, i_low, at) = each_hit m f (λ i low. omega (arith, within i low, less)) apart n less in
      absurd (omega (arith, within i i_low, at))
  | inr few ↦ few
]
