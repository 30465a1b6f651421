use Rattle.lib_laws.proofs.LawLemmas.{are_own}
use Rattle.lib_laws.proofs.laws.names_are_own.Goals as goal

pub returns : goal.returns
returns c = are_own
