use Rattle.change_spef_laws.proofs.PieceLemmas.{nets_split}
use Rattle.change_spef_laws.proofs.laws.nets_are_split.Goals as goal

pub returns : goal.returns
returns c = nets_split
