use Rattle.std.proofs.Common.{◌≡◌, ◌-◌, ◌≤◌, length, drop}
use Rattle.ver_text.specs.Tokens.{tokens_from}
use Rattle.ver_text.proofs.tokens.next_token.Given as goal

abbrev pub invariant-piece : goal.invariant-piece
invariant-piece l = record {
  within : l.at ≤ length l.text;
  same : tokens_from 0 l.start (drop l.start l.text) ≡ tokens_from 0 l.at (drop l.at l.text);
}

abbrev pub decreases-piece : goal.decreases-piece
decreases-piece l = length l.text - l.at
