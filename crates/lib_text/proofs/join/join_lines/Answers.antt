use Rattle.std.proofs.Common.{arith, sym, ◌∙◌}
use Rattle.lib_text.proofs.JoinLemmas.{all_joined}
use Rattle.lib_text.proofs.join.join_lines.Goals as goal

pub returns-clause-join : goal.returns-clause-join
returns-clause-join c = sym (all_joined c.byte.text c.byte.at (omega arith)) ∙ c.byte.invariant.joins
