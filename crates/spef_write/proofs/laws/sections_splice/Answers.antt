use Rattle.spef_write.proofs.SpliceLemmas.{sections_splice as law}
use Rattle.spef_write.proofs.laws.sections_splice.Goals as goal

pub returns : goal.returns
returns c = law
