use Rattle.change_spef_laws.proofs.EditLemmas.{go_on}
use Rattle.change_spef_laws.proofs.laws.splits_go_on.Goals as goal

pub returns : goal.returns
returns c = go_on
