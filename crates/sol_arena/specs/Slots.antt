-- The slots of an arena, and the solutions that stand in them, by their numbers.
use Rattle.std.specs.Prelude.{◌≡◌, ◌≢◌, ℕ, Bool, true, false, List, map, slice_index_or}
use Rattle.sol_arena.specs.declared.slot.Made.{Made}
use Rattle.sol_arena.specs.declared.slot.Made.TheVariants.{Free, Owed, Cell, Join}
use Rattle.sol_arena.specs.declared.slot.Slot.{Slot}

-- The number that no slot has: that of the empty solution, and the end of each chain of slots.
abbrev pub none : ℕ
none = 18446744073709551615

-- what is read where there is no slot; it counts for nothing
abbrev pub nothing : Slot
nothing = record { made = Owed none none; uses = 0 }

abbrev pub slot_at : List Slot → ℕ → Slot
slot_at slots s = slice_index_or slots s nothing

-- what stands in the slots, without the uses: all but uses is said of this list
abbrev pub made_in : List Slot → List Made
made_in slots = map (λ slot. slot.made) slots

-- what the solution s was made of
abbrev pub made_at : List Made → ℕ → Made
made_at ms s = slice_index_or ms s (Owed none none)

-- a solution, and no slot that is free or has yet to give up a use
abbrev pub is_solution : Made → Bool
is_solution (Free next) = false
is_solution (Owed to next) = false
is_solution (Cell node rep below) = true
is_solution (Join a b) = true

-- s is live, and not the empty solution
abbrev pub IsSolution : List Made → ℕ → Type 0
IsSolution ms s = is_solution (made_at ms s) ≡ true

-- s is live; the empty solution always is
abbrev pub IsLive : List Made → ℕ → Type 0
IsLive ms s = s ≢ none → IsSolution ms s
