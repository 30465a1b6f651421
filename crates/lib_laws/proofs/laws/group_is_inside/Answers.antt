use Rattle.lib_laws.proofs.LawLemmas.{is_inside}
use Rattle.lib_laws.proofs.laws.group_is_inside.Goals as goal

pub returns : goal.returns
returns c = is_inside
