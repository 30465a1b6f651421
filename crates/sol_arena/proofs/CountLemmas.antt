-- Sums over the slots when one of them changes.
use Rattle.std.proofs.Common.{◌≡◌, ◌≢◌, ℕ, ◌+◌, ◌<◌, ◌≤◌, Bool, true, false, List, [], ◌∷◌, ◌++◌, length, set, refl, sym, ap, ◌∙◌, arith, inl, inr, get_or}
use Rattle.std.proofs.lemmas.Bool.{cases_lt}
use Rattle.std.proofs.lemmas.List.{get_or_past, get_or-map}
use Rattle.std.proofs.lemmas.List.Sums.{sum_by-set, sum_by_push}
use Rattle.sol_arena.specs.declared.slot.Made.{Made}
use Rattle.sol_arena.specs.declared.slot.Made.TheVariants.{Free, Owed, Cell, Join}
use Rattle.sol_arena.specs.declared.slot.Slot.{Slot}
use Rattle.sol_arena.specs.Slots.{none, made_in, made_at, is_solution}
use Rattle.sol_arena.specs.Uses.{one_if, uses_in, inner_uses, live_count}
use Rattle.sol_arena.specs.Invariant.{links, is_free, is_owed, followed, owed_count, IsKept}
use Rattle.sol_arena.proofs.OneLemmas.{one_same, one_other}

-- what stands in a slot, as it is read
pub made_read : (slots : List Slot) (i : ℕ) (d : Slot) → i < length slots → (get_or slots i d).made ≡ made_at (made_in slots) i
made_read slots i d i_in = sym (get_or-map (λ slot. slot.made) slots i d (Owed none none) i_in)

pub past_owed : (ms : List Made) (i : ℕ) → length ms ≤ i → made_at ms i ≡ Owed none none
past_owed ms i past = get_or_past ms i (Owed none none) past

-- a slot that is not as one that is not there is there
pub is_there : (ms : List Made) (i : ℕ) (test : Made → Bool) → test (Owed none none) ≡ false → test (made_at ms i) ≡ true → i < length ms
is_there ms i test not is =
    elim (cases_lt i (length ms)) [
      | inl within ↦ within
      | inr past ↦ let bad : true ≡ false = sym is ∙ ap test (past_owed ms i past) ∙ not in absurd (cc)
    ]

pub uses_in-le : (ms : List Made) (t s : ℕ) → s ≢ none → uses_in (made_at ms t) s ≤ inner_uses ms s
unfolding inner_uses
uses_in-le ms t s some =
    elim (cases_lt t (length ms)) [
      | inl within ↦ omega (arith, sum_by-set (λ m. uses_in m s) ms t (Free none) (Owed none none) within)
      | inr past ↦ omega (arith, ap (λ m. uses_in m s) (past_owed ms t past), one_other none s (λ e. some (sym e)))
    ]

pub no_uses_in : (ms : List Made) (t s : ℕ) → s ≢ none → inner_uses ms s ≡ 0 → uses_in (made_at ms t) s ≡ 0
no_uses_in ms t s some unused = omega (arith, uses_in-le ms t s some)

pub inner_uses-set : (ms : List Made) (i s : ℕ) (m : Made) → i < length ms → inner_uses (set ms i m) s + uses_in (made_at ms i) s ≡ inner_uses ms s + uses_in m s
unfolding inner_uses
inner_uses-set ms i s m i_in = sum_by-set (λ x. uses_in x s) ms i m (Owed none none) i_in

pub followed-set : (ms : List Made) (i s : ℕ) (m : Made) → i < length ms → followed (set ms i m) s + links (made_at ms i) s ≡ followed ms s + links m s
unfolding followed
followed-set ms i s m i_in = sum_by-set (λ x. links x s) ms i m (Owed none none) i_in

pub live_count-set : (ms : List Made) (i : ℕ) (m : Made) → i < length ms → live_count (set ms i m) + one_if (is_solution (made_at ms i)) ≡ live_count ms + one_if (is_solution m)
unfolding live_count
live_count-set ms i m i_in = sum_by-set (λ x. one_if (is_solution x)) ms i m (Owed none none) i_in

pub owed_count-set : (ms : List Made) (i : ℕ) (m : Made) → i < length ms → owed_count (set ms i m) + one_if (is_owed (made_at ms i)) ≡ owed_count ms + one_if (is_owed m)
unfolding owed_count
owed_count-set ms i m i_in = sum_by-set (λ x. one_if (is_owed x)) ms i m (Owed none none) i_in

pub inner_uses-push : (ms : List Made) (s : ℕ) (m : Made) → inner_uses (ms ++ m ∷ []) s ≡ inner_uses ms s + uses_in m s
unfolding inner_uses
inner_uses-push ms s m = sum_by_push (λ x. uses_in x s) ms m

pub followed-push : (ms : List Made) (s : ℕ) (m : Made) → followed (ms ++ m ∷ []) s ≡ followed ms s + links m s
unfolding followed
followed-push ms s m = sum_by_push (λ x. links x s) ms m

pub live_count-push : (ms : List Made) (m : Made) → live_count (ms ++ m ∷ []) ≡ live_count ms + one_if (is_solution m)
unfolding live_count
live_count-push ms m = sum_by_push (λ x. one_if (is_solution x)) ms m

pub owed_count-push : (ms : List Made) (m : Made) → owed_count (ms ++ m ∷ []) ≡ owed_count ms + one_if (is_owed m)
unfolding owed_count
owed_count-push ms m = sum_by_push (λ x. one_if (is_owed x)) ms m

one_true : (b : Bool) → 0 < one_if b → b ≡ true
one_true true positive = refl
one_true false positive = absurd (omega arith)

pub free_form : (m : Made) → is_free m ≡ true → (next : ℕ) × (m ≡ Free next)
free_form (Free next) is = (next, refl)
free_form (Owed to next) is = absurd (cc)
free_form (Cell node rep below) is = absurd (cc)
free_form (Join a b) is = absurd (cc)

-- the first free slot is there, and free
pub first_free : (slots : List Slot) (free sol : ℕ) → IsKept slots free sol → free ≢ none → is_free (made_at (made_in slots) free) ≡ true
first_free slots free sol kept some = one_true (is_free (made_at (made_in slots) free)) (omega (arith, kept.chained free some, one_same free free refl))

pub length-made_in : (slots : List Slot) → length (made_in slots) ≡ length slots
length-made_in [] = refl
length-made_in (slot ∷ slots) = omega (arith, length-made_in slots)
