use Rattle.std.proofs.Common.{◌≡◌, ◌+◌, ◌-◌, ◌≤◌, length, drop}
use Rattle.std.specs.List.{prefix_len}
use Rattle.ver_text.specs.Bytes.{is_printable}
use Rattle.ver_text.proofs.lexer.printable_end.Given as goal

abbrev pub invariant-load : goal.invariant-load
invariant-load l = record {
  within : l.end ≤ length l.text;
  place : l.from + prefix_len is_printable (drop l.from l.text) ≡ l.end + prefix_len is_printable (drop l.end l.text);
}

abbrev pub decreases-load : goal.decreases-load
decreases-load l = length l.text - l.end
