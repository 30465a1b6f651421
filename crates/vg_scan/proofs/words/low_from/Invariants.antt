use Rattle.std.proofs.Common.{◌≡◌, ◌+◌, ◌-◌, ◌≤◌, drop, length}
use Rattle.std.specs.List.{position_or_len}
use Rattle.vg_scan.specs.Lines.{is_low}
use Rattle.vg_scan.proofs.words.low_from.Given as goal

abbrev pub invariant-high : goal.invariant-high
invariant-high l = record {
  within : l.at ≤ length l.line;
  first : l.at + position_or_len is_low (drop l.at l.line) ≡ l.start + position_or_len is_low (drop l.start l.line);
}

abbrev pub decreases-high : goal.decreases-high
decreases-high l = length l.line - l.at
