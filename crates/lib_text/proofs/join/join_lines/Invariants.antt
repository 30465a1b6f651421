use Rattle.std.proofs.Common.{◌≡◌, ◌-◌, ◌++◌, ◌≤◌, length, take, drop}
use Rattle.lib_text.specs.Joined.{joined}
use Rattle.lib_text.proofs.join.join_lines.Given as goal

abbrev pub invariant-byte : goal.invariant-byte
invariant-byte l = record {
  joins : take l.at l.text ++ joined (drop l.at l.text) ≡ joined l.initial.text;
  long : length l.text ≡ length l.initial.text;
  within : l.at ≤ length l.text;
}

abbrev pub decreases-byte : goal.decreases-byte
decreases-byte l = length l.initial.text - l.at
