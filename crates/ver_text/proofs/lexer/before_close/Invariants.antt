use Rattle.std.proofs.Common.{◌≡◌, ◌+◌, ◌-◌, ◌≤◌, length, drop}
use Rattle.ver_text.specs.Tokens.{before_close}
use Rattle.ver_text.proofs.lexer.before_close.Given as goal

abbrev pub invariant-close : goal.invariant-close
invariant-close l = record {
  within : l.end ≤ length l.text;
  place : before_close l.close l.text ≡ l.end + before_close l.close (drop l.end l.text);
}

abbrev pub decreases-close : goal.decreases-close
decreases-close l = length l.text - l.end
