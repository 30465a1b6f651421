use Rattle.change_laws.proofs.SmallTimeLemmas.{times_of_designs_are_small}
use Rattle.change_laws.proofs.laws.times_of_designs_are_small.Goals as goal

pub returns : goal.returns
returns c = times_of_designs_are_small
