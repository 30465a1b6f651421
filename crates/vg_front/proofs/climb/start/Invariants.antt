use Rattle.std.proofs.Common.{◌≡◌, ◌<◌, ℕ, List, [], length, Option}
use Rattle.sol_arena.specs.Arenas.{made_of}
use Rattle.sol_arena.specs.declared.slot.Slot.{Slot}
use Rattle.vg_front.specs.Held.{IsGiven}
use Rattle.vg_front.specs.Parts.{all_held, part_at, IsPart}
use Rattle.vg_front.proofs.climb.start.Given as goal

abbrev pub invariant-nodes : goal.invariant-nodes
invariant-nodes l = record {
  count : length l.parts.items ≡ l.node;
  given : (slots : List Slot) → IsGiven slots [] slots (all_held l.parts.items);
  parts : (cap : Option ℕ) (v : ℕ) → v < length l.parts.items
      → IsPart l.fn.p cap (length l.fn.p.tree.nodes) v (made_of l.fn.arena) (part_at l.parts.items v);
}
