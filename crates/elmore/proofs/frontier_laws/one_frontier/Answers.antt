use Rattle.elmore.specs.Frontier.{IsAttained}
use Rattle.elmore.proofs.FrontierLemmas.{one_of_each}
use Rattle.elmore.proofs.frontier_laws.one_frontier.Goals as goal

pub returns : goal.returns
returns c = λ p cap. one_of_each (IsAttained p cap)
