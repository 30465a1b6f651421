use Rattle.std.proofs.Common.{◌≡◌, ◌++◌, ◌≤◌, length, reverse}
use Rattle.lib_text.specs.Found.{tokens_next, left}
use Rattle.lib_text.specs.Statements.{statements_from, statements_of}
use Rattle.lib_text.proofs.statements.statements_of.Given as goal

abbrev pub invariant-token : goal.invariant-token
invariant-token l = record {
  within : l.at ≤ length l.text;
  grown : statements_of l.text ≡ l.statements.items ++ statements_from (reverse l.groups.items) l.name (tokens_next l.text l.content l.at);
}

abbrev pub decreases-token : goal.decreases-token
decreases-token l = left l.text l.content l.at
