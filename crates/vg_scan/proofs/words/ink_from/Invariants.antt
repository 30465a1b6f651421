use Rattle.std.proofs.Common.{◌≡◌, ◌+◌, ◌-◌, ◌≤◌, drop, length}
use Rattle.std.specs.List.{position_or_len}
use Rattle.vg_scan.specs.Lines.{is_ink}
use Rattle.vg_scan.proofs.words.ink_from.Given as goal

abbrev pub invariant-blank : goal.invariant-blank
invariant-blank l = record {
  within : l.at ≤ length l.line;
  first : l.at + position_or_len is_ink (drop l.at l.line) ≡ l.start + position_or_len is_ink (drop l.start l.line);
}

abbrev pub decreases-blank : goal.decreases-blank
decreases-blank l = length l.line - l.at
