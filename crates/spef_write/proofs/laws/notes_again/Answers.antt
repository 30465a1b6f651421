use Rattle.spef_write.proofs.NoteLemmas.{notes_again as law}
use Rattle.spef_write.proofs.laws.notes_again.Goals as goal

pub returns : goal.returns
returns c = law
