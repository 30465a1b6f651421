-- An arena that was restored: callers hold the uses that they held.
use Rattle.std.proofs.Common.{◌≡◌, ◌≢◌, ℕ, [], ◌∷◌, List, get_or, suc, refl, sym, ap, ◌∙◌, arith, inl, inr}
use Rattle.std.proofs.lemmas.Bool.{cases_Bool}
use Rattle.std.proofs.lemmas.List.Sums.{sum_by-cons}
use Rattle.std.specs.List.{sum_by}
use Rattle.sol_arena.specs.declared.arena.Arena.{Arena}
use Rattle.sol_arena.specs.declared.slot.Made.{Made}
use Rattle.sol_arena.specs.declared.slot.Made.TheVariants.{Owed}
use Rattle.sol_arena.specs.Arenas.{slots_of, made_of}
use Rattle.sol_arena.specs.Slots.{none, made_at, is_solution, IsSolution}
use Rattle.sol_arena.specs.Uses.{uses_in, inner_uses, held_of}
use Rattle.sol_arena.specs.Reach.{IsReached, IsRestored}
use Rattle.sol_arena.proofs.OneLemmas.{one_other}
use Rattle.sol_arena.proofs.ReachLemmas.{reached_live, settled_uses}
use Rattle.cand_uses.specs.Uses.{HoldsBeside, IsExchange}

-- lists that are the same but for what counts nothing have the same sum
sum_same : (f : Made → ℕ) (xs ys : List Made) (d : Made) → f d ≡ 0 → ((i : ℕ) → f (get_or xs i d) ≡ f (get_or ys i d)) → sum_by f xs ≡ sum_by f ys
sum_same f [] [] d nothing_is same = refl
sum_same f [] (y ∷ ys) d nothing_is same = omega (arith, sum_by-cons f y ys, same 0, nothing_is, sum_same f [] ys d nothing_is (λ i. same (suc i)))
sum_same f (x ∷ xs) [] d nothing_is same = omega (arith, sum_by-cons f x xs, same 0, nothing_is, sum_same f xs [] d nothing_is (λ i. same (suc i)))
sum_same f (x ∷ xs) (y ∷ ys) d nothing_is same =
    omega (arith, sum_by-cons f x xs, sum_by-cons f y ys, same 0, sum_same f xs ys d nothing_is (λ i. same (suc i)))

same_inner : (old new : Arena) → IsRestored (slots_of old) (slots_of new) → (t : ℕ) → t ≢ none → inner_uses (made_of new) t ≡ inner_uses (made_of old) t
unfolding inner_uses
same_inner old new r t some =
    sum_same (λ m. uses_in m t) (made_of new) (made_of old) (Owed none none) (one_other none t (λ e. some (sym e)))
    (λ i. elim (cases_Bool (is_solution (made_at (made_of old) i))) [
      | inl is ↦ ap (λ m. uses_in m t) (r.made i is)
      | inr not ↦ settled_uses (made_of new) i t new.sound.settled some (r.live i ∙ not) ∙ sym (settled_uses (made_of old) i t old.sound.settled some not)
    ])

same_held : (old new : Arena) → IsRestored (slots_of old) (slots_of new) → (t : ℕ) → t ≢ none → held_of (slots_of new) t ≡ held_of (slots_of old) t
same_held old new r t some = omega (arith, r.uses t some, same_inner old new r t some)

pub restored_exchange : (old new : Arena) → IsRestored (slots_of old) (slots_of new) → IsExchange (slots_of old) [] (slots_of new) []
restored_exchange old new r = record {
  held = λ others h s some. omega (arith, h s some, same_held old new r s some);
  frame = λ others h. record {
    made = λ s reached. r.made s (live others h s reached);
    cells = λ s reached. r.cells s (live others h s reached);
  };
} where
  live : (others : ℕ → ℕ) → HoldsBeside (slots_of old) [] others → (s : ℕ) → IsReached (made_of old) others s → IsSolution (made_of old) s
  live others h s reached = reached_live old others (λ t some. omega (arith, h t some)) s reached
