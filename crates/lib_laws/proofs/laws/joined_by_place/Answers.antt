use Rattle.lib_laws.proofs.LawJoins.{joined_by_place}
use Rattle.lib_laws.proofs.laws.joined_by_place.Goals as goal

pub returns : goal.returns
returns c = joined_by_place
