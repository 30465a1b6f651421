use Rattle.std.proofs.Common.{◌<◌, ◌≤◌, length}
use Rattle.sol_arena.specs.Arenas.{made_of}
use Rattle.vg_front.specs.Parts.{all_held, AreParts}
use Rattle.vg_front.proofs.ClimbLemmas.{HasGiven}
use Rattle.vg_front.proofs.climb.climb.Given as goal

abbrev pub invariant-nodes : goal.invariant-nodes
invariant-nodes l = record {
  some : 0 < length l.parts.items;
  within : length l.parts.items ≤ length l.fn.p.tree.nodes;
  given : HasGiven l.initial.arena (all_held l.initial.parts.items) l.arena (all_held l.parts.items);
  parts : AreParts l.fn.p l.fn.cap (length l.parts.items) (made_of l.arena) l.parts.items;
}

abbrev pub decreases-nodes : goal.decreases-nodes
decreases-nodes l = length l.parts.items
