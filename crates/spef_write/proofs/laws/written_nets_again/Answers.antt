use Rattle.spef_write.proofs.AgainLemmas.{written_nets_again as law}
use Rattle.spef_write.proofs.laws.written_nets_again.Goals as goal

pub returns : goal.returns
returns c = law
