use Rattle.cand_pairs.proofs.CoverLemmas.{cover_most}
use Rattle.cand_pairs.specs.Candidates.{of_lists}
use Rattle.cand_pairs.proofs.laws.cover_bounds.Goals as goal

pub returns : goal.returns
returns c = λ p lists most. cover_most p (of_lists lists) most
