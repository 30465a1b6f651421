use Rattle.divided_laws.proofs.LoadedLemmas.{loaded_divided}
use Rattle.divided_laws.proofs.laws.loaded_trees_are_divided.Goals as goal

pub returns : goal.returns
returns c = loaded_divided
