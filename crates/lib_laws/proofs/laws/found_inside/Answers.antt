use Rattle.lib_laws.proofs.LawLemmas.{found_inside}
use Rattle.lib_laws.proofs.laws.found_inside.Goals as goal

pub returns : goal.returns
returns c = found_inside
