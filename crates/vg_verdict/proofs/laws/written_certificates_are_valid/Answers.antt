use Rattle.vg_verdict.proofs.TextLemmas.{written_valid}
use Rattle.vg_verdict.proofs.laws.written_certificates_are_valid.Goals as goal

pub returns : goal.returns
returns c = written_valid
