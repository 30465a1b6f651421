use Rattle.cand_pairs.proofs.StepLemmas.{step_over}
use Rattle.cand_pairs.specs.Candidates.{of_lists}
use Rattle.cand_pairs.proofs.laws.step_is_monotone.Goals as goal

pub returns : goal.returns
returns c = λ p these those v odd x. step_over p (of_lists these) (of_lists those) v odd x
