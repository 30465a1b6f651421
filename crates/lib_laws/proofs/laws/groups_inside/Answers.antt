use Rattle.lib_laws.proofs.LawLemmas.{groups_inside}
use Rattle.lib_laws.proofs.laws.groups_inside.Goals as goal

pub returns : goal.returns
returns c = groups_inside
