use Rattle.std.proofs.Common.{◌≡◌, ◌≤◌, ℕ, ◌<◌}
use Rattle.std.specs.BinaryHeap.{heap_items}
use Rattle.vg_front.specs.Turns.{MayMeet}
use Rattle.vg_front.proofs.turns.put.Given as goal

abbrev pub invariant-seconds : goal.invariant-seconds
invariant-seconds l = record {
  same : heap_items l.turns ≡ heap_items l.fn.turns;
  none : (k : ℕ) → l.from ≤ k → k < l.second → MayMeet l.cap l.first l.seconds k → ⊥;
}
