use Rattle.std.proofs.Common.{◌≡◌, [], length}
use Rattle.sol_arena.specs.Arenas.{made_of}
use Rattle.cand_turns.specs.Swaps.{Slots, IsTurn, at_slots}
use Rattle.vg_slack.specs.Climbs.{all_lists, AreBegun}
use Rattle.vg_slack.proofs.climb.start.Given as goal

abbrev pub invariant-nodes : goal.invariant-nodes
invariant-nodes l = record {
  count : length l.parts.items ≡ l.node;
  turn : (slots : Slots) → IsTurn (at_slots l.initial.pool slots) [] (at_slots l.pool slots) (all_lists l.parts.items);
  begun : AreBegun l.fn.p l.fn.widths (made_of l.fn.arena) l.pool l.parts.items;
}
