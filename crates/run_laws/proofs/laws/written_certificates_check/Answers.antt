use Rattle.run_laws.proofs.CertLemmas.{written_certificates_check}
use Rattle.run_laws.proofs.laws.written_certificates_check.Goals as goal

pub returns : goal.returns
returns c = written_certificates_check
