use Rattle.cand_pairs.proofs.CoverLemmas.{pair_steps}
use Rattle.cand_pairs.proofs.SpliceLemmas.{step_pair}
use Rattle.cand_pairs.proofs.laws.pairs_step.Goals as goal

pub returns : goal.returns
returns c = λ p v odd x. (pair_steps p v odd x, step_pair p v odd x)
