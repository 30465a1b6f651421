use Rattle.std.proofs.Common.{◌≤◌}
use Rattle.vg_segment.proofs.LeafLemmas.{AreDigits}
use Rattle.vg_segment.proofs.leaves.leaf_number.Given as goal

abbrev pub invariant-digit : goal.invariant-digit
invariant-digit l = record {
  digits : AreDigits l.leaf l.at l.number;
  within : l.number ≤ l.last;
}
