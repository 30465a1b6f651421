use Rattle.spef_write.proofs.LineLemmas.{stars_again as law}
use Rattle.spef_write.proofs.laws.stars_again.Goals as goal

pub returns : goal.returns
returns c = law
