use Rattle.run_laws.proofs.CertLemmas.{certificates_are_written}
use Rattle.run_laws.proofs.laws.certificates_are_written.Goals as goal

pub returns : goal.returns
returns c = certificates_are_written
