use Rattle.split_laws.proofs.StageLemmas.{cell_is}
use Rattle.split_laws.proofs.laws.cells_are_repeaters.Goals as goal

pub returns : goal.returns
returns c = cell_is
