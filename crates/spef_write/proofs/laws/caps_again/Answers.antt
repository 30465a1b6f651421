use Rattle.spef_write.proofs.NumberLemmas.{caps_again as law}
use Rattle.spef_write.proofs.laws.caps_again.Goals as goal

pub returns : goal.returns
returns c = law
