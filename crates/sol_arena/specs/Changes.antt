-- What calls change in an arena. The uses of the empty solution, whose number is `none`, are not counted.
use Rattle.std.specs.Prelude.{◌≡◌, ◌≢◌, ℕ, ◌+◌, false, ◌==◌, List}
use Rattle.sol_arena.specs.declared.slot.Made.{Made}
use Rattle.sol_arena.specs.declared.slot.Slot.{Slot}
use Rattle.sol_arena.specs.Slots.{none, made_in, made_at, is_solution, IsSolution, IsLive}
use Rattle.sol_arena.specs.Uses.{one_if, uses_of, uses_in, inner_uses, held_of, live_count}
use Rattle.sol_arena.specs.Meanings.{cells_by, cells_of}

-- s is a new solution that was made so, and callers hold its one use; what it was made of has its uses more
pub record IsNew (old new : List Slot) (s : ℕ) (made_so : Made) : Type 0 where
  pub apart : s ≢ none
  pub fresh : is_solution (made_at (made_in old) s) ≡ false
  pub made : made_at (made_in new) s ≡ made_so
  pub others : (t : ℕ) → t ≢ s → made_at (made_in new) t ≡ made_at (made_in old) t
  pub uses : (t : ℕ) → t ≢ none → uses_of new t ≡ uses_of old t + uses_in made_so t + one_if (s == t)
  pub inner : (t : ℕ) → t ≢ none → inner_uses (made_in new) t ≡ inner_uses (made_in old) t + uses_in made_so t
  pub held : (t : ℕ) → t ≢ none → held_of new t ≡ held_of old t + one_if (s == t)
  pub count : live_count (made_in new) ≡ live_count (made_in old) + 1
  pub means : cells_of (made_in new) s ≡ cells_by made_so (cells_of (made_in old))
  pub cells : (t : ℕ) → IsLive (made_in old) t → cells_of (made_in new) t ≡ cells_of (made_in old) t

-- s has one use more, and all else is as before
pub record GainsUse (old new : List Slot) (s : ℕ) : Type 0 where
  pub same : made_in new ≡ made_in old
  pub uses : (t : ℕ) → t ≢ none → uses_of new t ≡ uses_of old t + one_if (s == t)

-- callers hold one use of s less; what is live now was made as before, and means what it did
pub record IsReleased (old new : List Slot) (s : ℕ) : Type 0 where
  pub held : (t : ℕ) → t ≢ none → held_of new t + one_if (s == t) ≡ held_of old t
  pub made : (t : ℕ) → IsSolution (made_in new) t → made_at (made_in new) t ≡ made_at (made_in old) t
  pub cells : (t : ℕ) → IsLive (made_in new) t → cells_of (made_in new) t ≡ cells_of (made_in old) t
