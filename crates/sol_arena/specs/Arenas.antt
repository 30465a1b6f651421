-- What contracts see of an arena: its slots, as a map from solution to what it was made of and its uses.
use Rattle.std.specs.Prelude.{List}
use Rattle.sol_arena.specs.declared.arena.Arena.{Arena}
use Rattle.sol_arena.specs.declared.slot.Made.{Made}
use Rattle.sol_arena.specs.declared.slot.Slot.{Slot}
use Rattle.sol_arena.specs.Slots.{made_in}

abbrev pub slots_of : Arena → List Slot
slots_of arena = arena.slots.items

-- what its solutions were made of
abbrev pub made_of : Arena → List Made
made_of arena = made_in (slots_of arena)
