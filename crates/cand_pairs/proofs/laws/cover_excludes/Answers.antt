use Rattle.cand_pairs.proofs.CoverLemmas.{cover_none}
use Rattle.cand_pairs.specs.Candidates.{of_lists}
use Rattle.cand_pairs.proofs.laws.cover_excludes.Goals as goal

pub returns : goal.returns
returns c = λ p lists. cover_none p (of_lists lists)
