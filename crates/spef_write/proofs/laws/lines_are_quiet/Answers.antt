use Rattle.spef_write.proofs.LineLemmas.{lines_are_quiet as law}
use Rattle.spef_write.proofs.laws.lines_are_quiet.Goals as goal

pub returns : goal.returns
returns c = law
