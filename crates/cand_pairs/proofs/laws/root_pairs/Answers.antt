use Rattle.cand_pairs.proofs.CoverLemmas.{root_pairs}
use Rattle.cand_pairs.proofs.laws.root_pairs.Goals as goal

pub returns : goal.returns
returns c = root_pairs
