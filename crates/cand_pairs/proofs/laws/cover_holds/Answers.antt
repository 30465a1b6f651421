use Rattle.cand_pairs.proofs.CoverLemmas.{cover_over}
use Rattle.cand_pairs.specs.Candidates.{of_lists}
use Rattle.cand_pairs.proofs.laws.cover_holds.Goals as goal

pub returns : goal.returns
returns c = λ p lists. cover_over p (of_lists lists)
