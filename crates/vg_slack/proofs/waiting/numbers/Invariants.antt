use Rattle.std.proofs.Common.{◌≡◌, ℕ, ◌<◌, length, slice_index}
use Rattle.vg_slack.proofs.waiting.numbers.Given as goal

abbrev pub invariant-nodes : goal.invariant-nodes
invariant-nodes l = record {
  count : length l.numbers.items ≡ l.v;
  each : (v : ℕ) → v < l.v → slice_index l.numbers.items v ≡ v;
}
