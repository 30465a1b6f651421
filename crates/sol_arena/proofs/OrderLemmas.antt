-- Orders in which solutions come after what they were made of.
use Rattle.std.proofs.Common.{◌≡◌, ◌≢◌, ℕ, ◌<◌, ◌≤◌, false, cond, ◌==◌, List, [], ◌∷◌, length, refl, sym, ap, ◌∙◌, arith, inl, inr, eqb, eqb-true, eq-eqb, ne_eqb}
use Rattle.std.proofs.lemmas.Bool.{cases_eq}
use Rattle.std.specs.List.{Contains, IsDistinct, AllByRecursion}
use Rattle.std.proofs.lemmas.Map.Keys.{IsDistinct-cons}
use Rattle.std.proofs.lemmas.Map.Steps.{length-le_from_distinct_below}
use Rattle.std.proofs.lemmas.Map.Views.{Contains-from_any}
use Rattle.sol_arena.specs.declared.slot.Made.{Made}
use Rattle.sol_arena.specs.Slots.{none, made_at, IsSolution}
use Rattle.sol_arena.specs.Uses.{uses_in}
use Rattle.sol_arena.specs.Invariant.{IsOrder, IsOrderOf}
use Rattle.sol_arena.proofs.OneLemmas.{in_rest, in_cases}

-- the numbers of a list but s
pub without : ℕ → List ℕ → List ℕ
without s [] = []
without s (x ∷ xs) = cond (x == s) (without s xs) (x ∷ without s xs)

pub without_same : (s x : ℕ) (xs : List ℕ) → x ≡ s → without s (x ∷ xs) ≡ without s xs
unfolding without
without_same s x xs e = ap (λ b. cond b (without s xs) (x ∷ without s xs)) (eq-eqb x s e)

pub without_other : (s x : ℕ) (xs : List ℕ) → (x ≡ s → ⊥) → without s (x ∷ xs) ≡ x ∷ without s xs
unfolding without
without_other s x xs other = ap (λ b. cond b (without s xs) (x ∷ without s xs)) (ne_eqb x s other)

pub in_without : (s x : ℕ) (xs : List ℕ) → Contains xs x → (x ≡ s → ⊥) → Contains (without s xs) x
in_without s x [] (k, k_n, e) other = absurd (omega arith)
in_without s x (y ∷ xs) found other =
    elim (cases_eq y s) [
      | inl same ↦ rw (without_same s y xs same) (elim (in_cases y xs x found) [
        | inl e ↦ absurd (other (sym e ∙ same))
        | inr later ↦ in_without s x xs later other
      ])
      | inr not ↦ rw (without_other s y xs not) (elim (in_cases y xs x found) [
        | inl e ↦ (0, omega arith, e)
        | inr later ↦ in_rest y (without s xs) x (in_without s x xs later other)
      ])
    ]

not_in_none : (s x : ℕ) → Contains (without s []) x → ⊥
unfolding without
not_in_none s x (k, k_n, e) = omega arith

pub from_without : (s x : ℕ) (xs : List ℕ) → Contains (without s xs) x → Contains xs x × (x ≡ s → ⊥)
from_without s x [] found = absurd (not_in_none s x found)
from_without s x (y ∷ xs) found =
    elim (cases_eq y s) [
      | inl same ↦
          let (found', other) = from_without s x xs (rw (without_same s y xs same) at found) in
          (in_rest y xs x found', other)
      | inr not ↦ elim (in_cases y (without s xs) x (rw (without_other s y xs not) at found)) [
        | inl e ↦ ((0, omega arith, e), λ x_s. not (e ∙ x_s))
        | inr later ↦
            let (found', other) = from_without s x xs later in
            (in_rest y xs x found', other)
      ]
    ]

-- the order stays where each is made of no more than before
pub order_less : (old new : List Made) → length old ≤ length new
    → ((s x : ℕ) → x ≢ none → uses_in (made_at new s) x ≤ uses_in (made_at old s) x)
    → (order : List ℕ) → IsOrder old order → IsOrder new order
order_less old new longer less [] ordered = tt
order_less old new longer less (y ∷ rest) ordered =
    (omega (arith, ordered.0), ordered.1, λ x some x_of. ordered.2 x some (omega (arith, less y x some)), order_less old new longer less rest ordered.3)

-- s leaves the order where nothing is made of it
pub order_without : (old new : List Made) → length old ≤ length new → (s : ℕ)
    → ((t : ℕ) → t ≢ s → made_at new t ≡ made_at old t)
    → ((t : ℕ) → uses_in (made_at old t) s ≡ 0)
    → (order : List ℕ) → IsOrder old order → IsOrder new (without s order)
unfolding without
order_without old new longer s same unused [] ordered = tt
order_without old new longer s same unused (y ∷ rest) ordered =
    let later : IsOrder new (without s rest) = order_without old new longer s same unused rest ordered.3 in
    elim (cases_eq y s) [
      | inl e ↦ rw (without_same s y rest e) later
      | inr other ↦ rw (without_other s y rest other) (
        omega (arith, ordered.0),
        λ found. ordered.1 (from_without s y rest found).0,
        λ x some x_of.
            let x_of_old : 0 < uses_in (made_at old y) x = rw (sym (same y other)) x_of in
            in_without s x rest (ordered.2 x some x_of_old) (λ e. let x_of_s : 0 < uses_in (made_at old y) s = rw (sym e) x_of_old in omega (arith, unused y)),
        later,
      )
    ]

all_apart : (y : ℕ) (xs : List ℕ) → (Contains xs y → ⊥) → AllByRecursion (λ z. eqb y z ≡ false) xs
all_apart y [] out = tt
all_apart y (x ∷ xs) out = (ne_eqb y x (λ e. out (0, omega arith, sym e)), all_apart y xs (λ found. out (in_rest x xs y found)))

order_distinct : (ms : List Made) (order : List ℕ) → IsOrder ms order → IsDistinct eqb order
unfolding IsDistinct
order_distinct ms [] ordered = tt
order_distinct ms (y ∷ rest) ordered = IsDistinct-cons eqb y rest (all_apart y rest ordered.1) (order_distinct ms rest ordered.3)

pub order_within : (ms : List Made) (order : List ℕ) → IsOrder ms order → (s : ℕ) → Contains order s → s < length ms
order_within ms [] ordered s (k, k_n, e) = absurd (omega arith)
order_within ms (y ∷ rest) ordered s found =
    elim (in_cases y rest s found) [
      | inl e ↦ omega (arith, ordered.0)
      | inr later ↦ order_within ms rest ordered.3 s later
    ]

-- an order is no longer than the slots
pub order_short : (ms : List Made) (order : List ℕ) → IsOrder ms order → length order ≤ length ms
order_short ms order ordered =
    length-le_from_distinct_below order (length ms) (order_distinct ms order ordered)
    (λ q any. order_within ms order ordered q (Contains-from_any eqb-true q order any))

-- a new solution comes first in the order
pub order_more : (old new : List Made) → length old ≤ length new → (s : ℕ) → s < length new
    → ((t : ℕ) → t ≢ s → made_at new t ≡ made_at old t)
    → ((t : ℕ) → uses_in (made_at old t) s ≡ 0)
    → ((x : ℕ) → x ≢ none → 0 < uses_in (made_at new s) x → IsSolution old x × (x ≢ s))
    → (order : List ℕ) → IsOrderOf old order → IsOrderOf new (s ∷ without s order)
order_more old new longer s s_in same unused live order orders =
    record {
      ordered = (
        s_in,
        λ found. (from_without s s order found).1 refl,
        λ x some x_of. let (x_live, x_s) = live x some x_of in in_without s x order (orders.whole x x_live) x_s,
        order_without old new longer s same unused order orders.ordered,
      );
      whole = λ t t_made. elim (cases_eq s t) [
        | inl e ↦ (0, omega arith, e)
        | inr other ↦
            let t_s : t ≢ s = λ e. other (sym e) in
            let t_old : IsSolution old t = rw (sym (same t t_s)) t_made in
            in_rest s (without s order) t (in_without s t order (orders.whole t t_old) t_s)
      ];
    }
