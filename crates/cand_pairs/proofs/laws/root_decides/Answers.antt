use Rattle.cand_pairs.proofs.CoverLemmas.{root_best}
use Rattle.cand_pairs.proofs.laws.root_decides.Goals as goal

pub returns : goal.returns
returns c = root_best
