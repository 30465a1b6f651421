use Rattle.std.proofs.Common.{length}
use Rattle.ver_syntax.specs.Reading.{HasRead}
use Rattle.ver_syntax.proofs.check.check_grammar.Given as goal

abbrev pub invariant-token : goal.invariant-token
invariant-token l = HasRead l.text l.tokens l.at l.braces

abbrev pub decreases-token : goal.decreases-token
decreases-token l = length l.tokens
