use Rattle.spef_write.proofs.NumberLemmas.{numbers_again as law}
use Rattle.spef_write.proofs.laws.numbers_again.Goals as goal

pub returns : goal.returns
returns c = law
