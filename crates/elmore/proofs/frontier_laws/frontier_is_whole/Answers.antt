use Rattle.elmore.specs.Frontier.{IsAttained}
use Rattle.elmore.proofs.FrontierLemmas.{is_whole}
use Rattle.elmore.proofs.frontier_laws.frontier_is_whole.Goals as goal

pub returns : goal.returns
returns c = λ p cap. is_whole (IsAttained p cap)
