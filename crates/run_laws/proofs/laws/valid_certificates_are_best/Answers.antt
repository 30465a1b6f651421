use Rattle.run_laws.proofs.CertLemmas.{valid_certificates_are_best}
use Rattle.run_laws.proofs.laws.valid_certificates_are_best.Goals as goal

pub returns : goal.returns
returns c = valid_certificates_are_best
