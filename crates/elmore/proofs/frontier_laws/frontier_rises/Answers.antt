use Rattle.elmore.specs.Frontier.{IsAttained}
use Rattle.elmore.proofs.FrontierLemmas.{rises}
use Rattle.elmore.proofs.frontier_laws.frontier_rises.Goals as goal

pub returns : goal.returns
returns c = λ p cap. rises (IsAttained p cap)
