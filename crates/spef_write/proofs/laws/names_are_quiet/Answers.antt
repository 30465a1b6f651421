use Rattle.spef_write.proofs.QuietLemmas.{name_quiet}
use Rattle.spef_write.proofs.laws.names_are_quiet.Goals as goal

pub returns : goal.returns
returns c = name_quiet
