use Rattle.std.proofs.Common.{◌≡◌, ◌≢◌, ℕ, ◌<◌, ◌≤◌, None}
use Rattle.sol_arena.specs.Slots.{none, made_in, IsLive}
use Rattle.sol_arena.specs.Uses.{held_of}
use Rattle.sol_arena.specs.Meanings.{cells_of}
use Rattle.tests_engine.proofs.arena.chain_of.Given as goal

abbrev pub invariant-nodes : goal.invariant-nodes
invariant-nodes l = record {
  live : IsLive (made_in l.arena.slots.items) l.top.0;
  held : l.top.0 ≢ none → 0 < held_of l.arena.slots.items l.top.0;
  apart : (v : ℕ) → l.node ≤ v → cells_of (made_in l.arena.slots.items) l.top.0 v ≡ None;
}
