use Rattle.std.proofs.Common.{◌≡◌, length}
use Rattle.sol_arena.specs.Arenas.{made_of}
use Rattle.cand_turns.specs.Swaps.{IsTurn, search}
use Rattle.cand_turns.specs.Tooled.{AreToolsOf}
use Rattle.vg_slack.specs.Climbs.{all_lists, AreParts}
use Rattle.vg_slack.specs.Kept.{AreKept}
use Rattle.vg_slack.specs.Waits.{IsWaiting}
use Rattle.vg_slack.proofs.WaitLemmas.{left_from}
use Rattle.vg_slack.proofs.climb.climb.Given as goal

abbrev pub invariant-nodes : goal.invariant-nodes
invariant-nodes g l = record {
  waiting : IsWaiting l.fn.p l.waiting l.at;
  tools : AreToolsOf l.fn.p l.tools;
  turn : IsTurn (search l.initial.pool l.initial.arena) (all_lists l.initial.parts.items) (search l.pool l.arena) (all_lists l.parts.items);
  parts : AreParts l.fn.p l.fn.widths l.waiting (made_of l.arena) l.pool l.parts.items;
  nodes : length l.lists.nodes.items ≡ length l.initial.lists.nodes.items;
  kept : AreKept l.fn.p l.fn.widths l.waiting l.lists;
}

abbrev pub decreases-nodes : goal.decreases-nodes
decreases-nodes g l = left_from l.fn.p l.waiting l.at
