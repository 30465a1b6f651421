use Rattle.cand_pairs.proofs.PricedFrontierLemmas.{priced_frontier}
use Rattle.cand_pairs.specs.Priced.{of_priced}
use Rattle.cand_pairs.proofs.laws.priced_frontier.Goals as goal

pub returns : goal.returns
returns c = λ p cap lists points. priced_frontier p cap (of_priced lists) points
