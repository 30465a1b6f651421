use Rattle.cand_pairs.proofs.ExactLemmas.{step_lists_exact}
use Rattle.cand_pairs.proofs.laws.step_lists_are_exact.Goals as goal

pub returns : goal.returns
returns c = step_lists_exact
