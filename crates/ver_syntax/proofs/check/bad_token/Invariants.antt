use Rattle.std.proofs.Common.{◌≡◌, length}
use Rattle.std.specs.Prelude.{find}
use Rattle.ver_syntax.specs.Syntax.{is_bad}
use Rattle.ver_text.specs.Tokens.{tokens_of}
use Rattle.ver_syntax.proofs.check.bad_token.Given as goal

abbrev pub invariant-token : goal.invariant-token
invariant-token l = find is_bad (tokens_of l.text) ≡ find is_bad l.tokens

abbrev pub decreases-token : goal.decreases-token
decreases-token l = length l.tokens
