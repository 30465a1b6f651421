use Rattle.std.proofs.Common.{◌≡◌, ℕ, length}
use Rattle.sol_arena.specs.Slots.{made_in}
use Rattle.sol_arena.specs.Meanings.{cells_of}
use Rattle.sol_arena.specs.Walk.{AreLive, cell_so_far, turns_left}
use Rattle.sol_arena.proofs.arena.Arena.places.Given as goal

abbrev pub invariant-walk : goal.invariant-walk
invariant-walk l = record {
  room : length l.cells.items ≡ l.n;
  live : AreLive (made_in l.self.slots.items) l.left.items;
  whole : (v : ℕ) → cell_so_far (made_in l.self.slots.items) l.cells.items l.left.items v ≡ cells_of (made_in l.self.slots.items) l.fn.sol.0 v;
}

abbrev pub decreases-walk : goal.decreases-walk
decreases-walk l = turns_left (made_in l.self.slots.items) l.left.items
