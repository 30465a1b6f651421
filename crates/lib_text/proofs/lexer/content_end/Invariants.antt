use Rattle.std.proofs.Common.{◌≡◌, ◌+◌, ◌-◌, ◌≤◌, ◌&&◌, length, drop}
use Rattle.lib_text.specs.declared.quoting.Quoting.TheVariants.{Outside}
use Rattle.lib_text.specs.Tokens.{end_of, is_sound}
use Rattle.lib_text.proofs.lexer.content_end.Given as goal

abbrev pub invariant-content : goal.invariant-content
invariant-content l = record {
  within : l.end ≤ length l.text;
  place : l.at + end_of l.content Outside (drop l.at l.text) ≡ l.end + end_of l.content l.quoting (drop l.end l.text);
  clean : is_sound l.content Outside (drop l.at l.text) ≡ (l.sound && is_sound l.content l.quoting (drop l.end l.text));
}

abbrev pub decreases-content : goal.decreases-content
decreases-content l = length l.text - l.end
