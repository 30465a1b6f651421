use Rattle.lib_laws.proofs.LawJoins.{plain_stays}
use Rattle.lib_laws.proofs.laws.plain_stays.Goals as goal

pub returns : goal.returns
returns c = plain_stays
