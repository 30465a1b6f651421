use Rattle.vg_words.proofs.JudgeLemmas.{certs}
use Rattle.vg_words.proofs.laws.certs_are_of_one_net.Goals as goal

pub returns : goal.returns
returns c = certs
