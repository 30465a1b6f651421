use Rattle.spef_write.proofs.ShapeLemmas.{sections_are_quiet as law}
use Rattle.spef_write.proofs.laws.sections_are_quiet.Goals as goal

pub returns : goal.returns
returns c = law
