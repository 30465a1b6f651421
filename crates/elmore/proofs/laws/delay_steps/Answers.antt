use Rattle.elmore.proofs.TreeLemmas.{root_delay, next_delay}
use Rattle.elmore.proofs.laws.delay_steps.Goals as goal

pub returns : goal.returns
returns c = λ nodes t. (root_delay nodes t, next_delay nodes t)
