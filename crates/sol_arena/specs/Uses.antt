-- The uses of solutions. Callers hold some, and each solution has one of each that it was made of.
use Rattle.std.specs.Prelude.{ℕ, ◌+◌, ◌-◌, ◌==◌, Bool, List, if◌then◌else◌}
use Rattle.std.specs.List.{sum_by}
use Rattle.sol_arena.specs.declared.slot.Made.{Made}
use Rattle.sol_arena.specs.declared.slot.Made.TheVariants.{Free, Owed, Cell, Join}
use Rattle.sol_arena.specs.declared.slot.Slot.{Slot}
use Rattle.sol_arena.specs.Slots.{slot_at, made_in, is_solution}

abbrev pub one_if : Bool → ℕ
one_if b = if b then 1 else 0

-- how many uses s has; those of the empty solution are not counted
abbrev pub uses_of : List Slot → ℕ → ℕ
uses_of slots s = (slot_at slots s).uses

-- how many uses of s what is made so has
abbrev pub uses_in : Made → ℕ → ℕ
uses_in (Free next) s = 0
uses_in (Owed to next) s = one_if (to == s)
uses_in (Cell node rep below) s = one_if (below == s)
uses_in (Join a b) s = one_if (a == s) + one_if (b == s)

-- how many uses of s all solutions have
unfoldable pub inner_uses : List Made → ℕ → ℕ
inner_uses ms s = sum_by (λ made. uses_in made s) ms

-- how many uses of s callers hold: all the others
abbrev pub held_of : List Slot → ℕ → ℕ
held_of slots s = uses_of slots s - inner_uses (made_in slots) s

-- how many solutions are live beside the empty one
unfoldable pub live_count : List Made → ℕ
live_count ms = sum_by (λ made. one_if (is_solution made)) ms
