-- What uses reach, and what calls leave of it. Some uses that callers hold are a function: how many of each solution.
use Rattle.std.specs.Prelude.{◌≡◌, ◌≢◌, ℕ, ◌<◌, ◌≤◌, List}
use Rattle.sol_arena.specs.declared.slot.Made.{Made}
use Rattle.sol_arena.specs.declared.slot.Slot.{Slot}
use Rattle.sol_arena.specs.Slots.{none, made_in, made_at, is_solution, IsSolution}
use Rattle.sol_arena.specs.Uses.{uses_of, uses_in, held_of, live_count}
use Rattle.sol_arena.specs.Meanings.{cells_of}

-- one of these uses is of s, or of a solution that was made of it, directly or through others
pub data IsReached (ms : List Made) (held : ℕ → ℕ) : ℕ → Type 0 where
  root : (s : ℕ) → s ≢ none → 0 < held s → IsReached ms held s
  through : (s x : ℕ) → IsReached ms held s → x ≢ none → 0 < uses_in (made_at ms s) x → IsReached ms held x

-- each solution that these uses reach keeps its meaning and what it was made of
pub record IsFrame (held : ℕ → ℕ) (old new : List Made) : Type 0 where
  pub made : (s : ℕ) → IsReached old held s → made_at new s ≡ made_at old s
  pub cells : (s : ℕ) → IsReached old held s → cells_of new s ≡ cells_of old s

-- callers hold these uses, and perhaps more
abbrev pub AreHeld : (ℕ → ℕ) → List Slot → Type 0
AreHeld held slots = (s : ℕ) → s ≢ none → held s ≤ held_of slots s

-- the same solutions are live, with the same meanings and uses
pub record IsRestored (old new : List Slot) : Type 0 where
  pub live : (s : ℕ) → is_solution (made_at (made_in new) s) ≡ is_solution (made_at (made_in old) s)
  pub made : (s : ℕ) → IsSolution (made_in old) s → made_at (made_in new) s ≡ made_at (made_in old) s
  pub cells : (s : ℕ) → IsSolution (made_in old) s → cells_of (made_in new) s ≡ cells_of (made_in old) s
  pub uses : (s : ℕ) → s ≢ none → uses_of new s ≡ uses_of old s
  pub count : live_count (made_in new) ≡ live_count (made_in old)
