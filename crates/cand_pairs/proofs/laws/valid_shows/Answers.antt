use Rattle.cand_pairs.proofs.CertificateLemmas.{valid_shows}
use Rattle.cand_pairs.proofs.laws.valid_shows.Goals as goal

pub returns : goal.returns
returns c = valid_shows
