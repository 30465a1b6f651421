use Rattle.elmore.proofs.FrontierLemmas.{last_is_best}
use Rattle.elmore.proofs.frontier_laws.best_is_last.Goals as goal

pub returns : goal.returns
returns c = last_is_best
