use Rattle.cand_pairs.proofs.PricedLemmas.{priced_steps, step_priced}
use Rattle.cand_pairs.proofs.laws.priced_step.Goals as goal

pub returns : goal.returns
returns c = λ p v odd z. (priced_steps p v odd z, step_priced p v odd z)
