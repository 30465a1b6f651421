use Rattle.spef_write.proofs.NumberLemmas.{ress_again as law}
use Rattle.spef_write.proofs.laws.ress_again.Goals as goal

pub returns : goal.returns
returns c = law
