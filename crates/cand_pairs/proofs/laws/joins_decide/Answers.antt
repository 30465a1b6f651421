use Rattle.cand_pairs.proofs.CertificateLemmas.{joins_decide}
use Rattle.cand_pairs.proofs.laws.joins_decide.Goals as goal

pub returns : goal.returns
returns c = joins_decide
