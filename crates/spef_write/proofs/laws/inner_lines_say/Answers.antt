use Rattle.spef_write.proofs.SayLemmas.{inner_lines_say as law}
use Rattle.spef_write.proofs.laws.inner_lines_say.Goals as goal

pub returns : goal.returns
returns c = law
