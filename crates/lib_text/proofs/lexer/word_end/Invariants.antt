use Rattle.std.proofs.Common.{◌≡◌, ◌+◌, ◌-◌, ◌≤◌, length, drop}
use Rattle.std.specs.List.{prefix_len}
use Rattle.lib_text.specs.Tokens.{is_word_byte}
use Rattle.lib_text.proofs.lexer.word_end.Given as goal

abbrev pub invariant-word : goal.invariant-word
invariant-word l = record {
  within : l.end ≤ length l.text;
  place : l.at + prefix_len is_word_byte (drop l.at l.text) ≡ l.end + prefix_len is_word_byte (drop l.end l.text);
}

abbrev pub decreases-word : goal.decreases-word
decreases-word l = length l.text - l.end
