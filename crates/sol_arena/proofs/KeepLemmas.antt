-- What a held use does to an arena.
use Rattle.std.proofs.Common.{◌≡◌, ◌≢◌, ℕ, ◌+◌, ◌^◌, ◌<◌, true, false, ◌==◌, List, [], length, refl, sym, ap, ◌∙◌, arith, inl, inr, subst}
use Rattle.std.proofs.lemmas.Bool.{cases_eq}
use Rattle.std.proofs.lemmas.List.{get_or_past}
use Rattle.std.proofs.Math.Logic.{∥∥₁_map}
use Rattle.sol_arena.specs.declared.slot.Slot.{Slot}
use Rattle.sol_arena.specs.Slots.{none, nothing, made_in, made_at, is_solution, IsSolution, IsLive}
use Rattle.sol_arena.specs.Uses.{uses_of, held_of, one_if, inner_uses}
use Rattle.sol_arena.specs.Invariant.{is_free, followed, owed_count, IsArena}
use Rattle.sol_arena.specs.Changes.{GainsUse}
use Rattle.sol_arena.proofs.OneLemmas.{one_same, one_other}
use Rattle.sol_arena.proofs.CountLemmas.{length-made_in}

pub arena_empty : (slots : List Slot) → slots ≡ [] → IsArena slots none
unfolding inner_uses followed owed_count
arena_empty slots is =
    subst (λ xs. IsArena xs none) (sym is) (record {
      kept = record {
        room = omega arith;
        counted = λ t some. omega (arith, one_other none t (λ e. some (sym e)));
        small = λ t some. omega arith;
        used = λ t made. absurd (cc);
        unused = λ t not. refl;
        chained = λ t some. omega (arith, one_other none t (λ e. some (sym e)));
      };
      settled = refl;
      acyclic = ∣ ([], record { ordered = tt; whole = λ t made. absurd (cc) }) ∣₁;
    })

pub used_arena : (old new : List Slot) (free s : ℕ) → IsArena old free → GainsUse old new s → IsLive (made_in old) s → uses_of old s < 2 ^ 63 → IsArena new free
used_arena old new free s arena once s_live room =
    let no_next : (t : ℕ) → t ≢ none → one_if (none == t) ≡ 0 = λ t some. one_other none t (λ e. some (sym e)) in
    let same : (t : ℕ) → made_at (made_in new) t ≡ made_at (made_in old) t = λ t. ap (λ ms. made_at ms t) once.same in
    let lengths : length new ≡ length old = omega (arith, ap length once.same, length-made_in new, length-made_in old) in
    let inner_same : (t : ℕ) → inner_uses (made_in new) t ≡ inner_uses (made_in old) t = λ t. ap (λ ms. inner_uses ms t) once.same in
    let none_old : uses_of old none ≡ 0 = ap (λ x. x.uses) (get_or_past old none nothing (omega (arith, arena.kept.room))) in
    let none_new : uses_of new none ≡ 0 = ap (λ x. x.uses) (get_or_past new none nothing (omega (arith, arena.kept.room, lengths))) in
    record {
      kept = record {
        room = omega (arith, arena.kept.room, lengths);
        counted = λ t some. omega (arith, once.uses t some, inner_same t, arena.kept.counted t some);
        small = λ t some. elim (cases_eq s t) [
          | inl e ↦
              let t_room : uses_of old t < 2 ^ 63 = rw (sym e) room in
              omega (arith, once.uses t some, t_room, one_same s t e)
          | inr other ↦ omega (arith, once.uses t some, inner_same t, arena.kept.small t some, one_other s t other)
        ];
        used = λ t is.
            let was : IsSolution (made_in old) t = ap is_solution (sym (same t)) ∙ is in
            elim (cases_eq t none) [
              | inl e ↦
                  let positive : 0 < uses_of old none = subst (λ x. 0 < uses_of old x) e (arena.kept.used t was) in
                  absurd (omega (arith, positive, none_old))
              | inr some ↦ omega (arith, once.uses t some, arena.kept.used t was)
            ];
        unused = λ t not.
            let was : is_solution (made_at (made_in old) t) ≡ false = ap is_solution (sym (same t)) ∙ not in
            elim (cases_eq t none) [
              | inl e ↦ ap (uses_of new) e ∙ none_new
              | inr some ↦
                  let other : s ≢ t = λ e. let clash : true ≡ false = sym (s_live (λ n. some (sym e ∙ n))) ∙ ap (λ y. is_solution (made_at (made_in old) y)) e ∙ was in absurd (cc) in
                  omega (arith, once.uses t some, arena.kept.unused t was, one_other s t other)
            ];
        chained = λ t some. omega (arith, arena.kept.chained t some, ap (λ ms. followed ms t) once.same, ap (λ m. one_if (is_free m)) (same t));
      };
      settled = ap owed_count once.same ∙ arena.settled;
      acyclic = ∥∥₁_map arena.acyclic (λ (order, orders). (order, rw once.same orders));
    }

pub used_held : (old new : List Slot) (free s : ℕ) → IsArena old free → GainsUse old new s → (t : ℕ) → t ≢ none → held_of new t ≡ held_of old t + one_if (s == t)
used_held old new free s arena once t some =
    omega (arith, once.uses t some, ap (λ ms. inner_uses ms t) once.same, arena.kept.counted t some, one_other none t (λ e. some (sym e)))
