use Rattle.spef_write.proofs.WordLemmas.{lines_again as law}
use Rattle.spef_write.proofs.laws.lines_again.Goals as goal

pub returns : goal.returns
returns c = law
