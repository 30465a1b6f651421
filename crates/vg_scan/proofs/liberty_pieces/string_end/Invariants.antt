use Rattle.std.proofs.Common.{◌≡◌, ◌+◌, ◌-◌, ◌≤◌, length, drop, false}
use Rattle.vg_scan.specs.LibertyComments.{through_string_in}
use Rattle.vg_scan.proofs.liberty_pieces.string_end.Given as goal

abbrev pub invariant-string : goal.invariant-string
invariant-string l = record {
  within : l.end ≤ length l.text;
  place : l.at + through_string_in false (drop l.at l.text) ≡ l.end + through_string_in l.continued (drop l.end l.text);
}

abbrev pub decreases-string : goal.decreases-string
decreases-string l = length l.text - l.end
