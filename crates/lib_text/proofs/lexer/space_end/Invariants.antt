use Rattle.std.proofs.Common.{◌≡◌, ◌+◌, ◌-◌, ◌≤◌, length, drop}
use Rattle.std.specs.List.{prefix_len}
use Rattle.lib_text.specs.Tokens.{is_space}
use Rattle.lib_text.proofs.lexer.space_end.Given as goal

abbrev pub invariant-space : goal.invariant-space
invariant-space l = record {
  within : l.end ≤ length l.text;
  place : l.at + prefix_len is_space (drop l.at l.text) ≡ l.end + prefix_len is_space (drop l.end l.text);
}

abbrev pub decreases-space : goal.decreases-space
decreases-space l = length l.text - l.end
