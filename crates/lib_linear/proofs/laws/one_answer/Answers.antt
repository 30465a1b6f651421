use Rattle.lib_linear.proofs.LawLemmas.{excludes}
use Rattle.lib_linear.proofs.laws.one_answer.Goals as goal

pub returns : goal.returns
returns c = excludes
