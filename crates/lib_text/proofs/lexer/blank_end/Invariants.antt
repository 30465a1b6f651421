use Rattle.std.proofs.Common.{◌≡◌, ◌+◌, ◌-◌, ◌≤◌, length, drop}
use Rattle.std.specs.List.{prefix_len}
use Rattle.vg_scan.specs.Lines.{is_blank}
use Rattle.lib_text.proofs.lexer.blank_end.Given as goal

abbrev pub invariant-blank : goal.invariant-blank
invariant-blank l = record {
  within : l.end ≤ length l.text;
  place : l.at + prefix_len is_blank (drop l.at l.text) ≡ l.end + prefix_len is_blank (drop l.end l.text);
}

abbrev pub decreases-blank : goal.decreases-blank
decreases-blank l = length l.text - l.end
