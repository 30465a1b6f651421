use Rattle.cand_pairs.proofs.ExactLemmas.{exact_lists_cover}
use Rattle.cand_pairs.proofs.laws.exact_lists_cover.Goals as goal

pub returns : goal.returns
returns c = exact_lists_cover
