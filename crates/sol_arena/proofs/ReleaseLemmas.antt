-- What a release leaves.
use Rattle.std.proofs.Common.{◌≡◌, ◌≢◌, ℕ, ◌<◌, ◌≤◌, List, [], ◌∷◌, length, refl, sym, ap, ◌∙◌, arith, inl, inr, subst, cond, count_by}
use Rattle.std.proofs.lemmas.Bool.{cases_eq}
use Rattle.std.proofs.lemmas.List.Sums.{sum_by-cons}
use Rattle.sol_arena.specs.declared.slot.Slot.{Slot}
use Rattle.sol_arena.specs.Slots.{none, made_in, made_at, is_solution, IsSolution, IsLive}
use Rattle.sol_arena.specs.Uses.{held_of, one_if, uses_in, live_count}
use Rattle.sol_arena.specs.Meanings.{cells_of, cells_within}
use Rattle.sol_arena.specs.Invariant.{IsArena}
use Rattle.sol_arena.specs.Changes.{IsReleased}
use Rattle.sol_arena.specs.Steps.{IsTurn}
use Rattle.sol_arena.proofs.OneLemmas.{one_same, one_other}
use Rattle.sol_arena.proofs.CountLemmas.{length-made_in}
use Rattle.sol_arena.proofs.MeaningLemmas.{cells_alike, none_made}
use Rattle.sol_arena.proofs.MakeLemmas.{closed_live}

-- where no slot is added, solutions that stay mean the same
pub cells_stay : (old new : List Slot) (free : ℕ) → IsArena new free → length new ≡ length old
    → ((t : ℕ) → IsSolution (made_in new) t → made_at (made_in new) t ≡ made_at (made_in old) t)
    → (t : ℕ) → IsLive (made_in new) t → cells_of (made_in new) t ≡ cells_of (made_in old) t
unfolding cells_of
cells_stay old new free arena lengths stays t t_live =
    let room_new : length (made_in new) ≤ none = omega (arith, length-made_in new, arena.kept.room) in
    let room_old : length (made_in old) ≤ none = omega (arith, length-made_in old, arena.kept.room, lengths) in
    let same : (s : ℕ) → IsLive (made_in new) s → made_at (made_in new) s ≡ made_at (made_in old) s = λ s s_live. elim (cases_eq s none) [
      | inl e ↦ ap (made_at (made_in new)) e ∙ none_made (made_in new) room_new ∙ sym (ap (made_at (made_in old)) e ∙ none_made (made_in old) room_old)
      | inr some ↦ stays s (s_live some)
    ] in
    cells_alike (made_in old) (made_in new) (IsLive (made_in new)) same
    (λ s x s_live x_of. closed_live new free arena.kept s x s_live (subst (λ m. 0 < uses_in m x) (sym (same s s_live)) x_of))
    (length (made_in new)) t t_live
    ∙ ap (λ n. cells_within n (made_in old) t) (length-made_in new ∙ lengths ∙ sym (length-made_in old))

pub released : (old new : List Slot) (free free' s : ℕ) → IsArena old free → IsArena new free' → (s ≢ none → 0 < held_of old s) → IsTurn old new s none → IsReleased old new s
released old new free free' s arena after held turn =
    record {
      held = λ t some. elim (cases_eq s t) [
        | inl e ↦
            let t_held : 0 < held_of old t = subst (λ x. 0 < held_of old x) e (held (λ n. some (sym e ∙ n))) in
            omega (arith, turn.held t some, one_same s t e, one_other none t (λ n. some (sym n)), t_held, after.kept.counted t some)
        | inr other ↦ omega (arith, turn.held t some, one_other s t other, one_other none t (λ n. some (sym n)), arena.kept.counted t some, after.kept.counted t some)
      ];
      made = turn.same;
      cells = cells_stay old new free' after turn.lengths turn.same;
    }

pub live_counted : (slots : List Slot) → live_count (made_in slots) ≡ count_by (λ slot. is_solution slot.made) slots
unfolding live_count
live_counted [] = refl
live_counted (slot ∷ slots) =
    omega (arith, live_counted slots, sum_by-cons (λ m. one_if (is_solution m)) slot.made (made_in slots), sum_by-cons (λ x. cond (is_solution x.made) 1 0) slot slots)
