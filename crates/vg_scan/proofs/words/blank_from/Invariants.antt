use Rattle.std.proofs.Common.{◌≡◌, ◌+◌, ◌-◌, ◌≤◌, drop, length}
use Rattle.std.specs.List.{position_or_len}
use Rattle.vg_scan.specs.Lines.{is_blank}
use Rattle.vg_scan.proofs.words.blank_from.Given as goal

abbrev pub invariant-ink : goal.invariant-ink
invariant-ink l = record {
  within : l.at ≤ length l.line;
  first : l.at + position_or_len is_blank (drop l.at l.line) ≡ l.start + position_or_len is_blank (drop l.start l.line);
}

abbrev pub decreases-ink : goal.decreases-ink
decreases-ink l = length l.line - l.at
