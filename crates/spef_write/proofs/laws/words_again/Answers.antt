use Rattle.spef_write.proofs.WordLemmas.{words_again as law}
use Rattle.spef_write.proofs.laws.words_again.Goals as goal

pub returns : goal.returns
returns c = law
