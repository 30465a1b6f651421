use Rattle.std.proofs.Common.{◌≡◌, ℕ, length, map, get_or, []}
use Rattle.vg_slack.specs.Kept.{kept_in, AreEmpty}
use Rattle.vg_slack.proofs.lists.Lists.new.Given as goal

abbrev pub invariant-nodes : goal.invariant-nodes
invariant-nodes l = record {
  count : length l.nodes.items ≡ l._node;
  none : (v : ℕ) → AreEmpty (get_or (map kept_in l.nodes.items) v (λ odd. []));
}
