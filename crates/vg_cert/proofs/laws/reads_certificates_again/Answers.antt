use Rattle.vg_cert.proofs.AgainLemmas.{text_faultless, text_denotes}
use Rattle.vg_cert.proofs.laws.reads_certificates_again.Goals as goal

pub returns-clause-faultless : goal.returns-clause-faultless
returns-clause-faultless c = text_faultless

pub returns-clause-denotes : goal.returns-clause-denotes
returns-clause-denotes c = text_denotes
