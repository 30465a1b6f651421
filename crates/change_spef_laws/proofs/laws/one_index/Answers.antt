use Rattle.change_spef_laws.proofs.IndexLemmas.{one_index}
use Rattle.change_spef_laws.proofs.laws.one_index.Goals as goal

pub returns : goal.returns
returns c = one_index
