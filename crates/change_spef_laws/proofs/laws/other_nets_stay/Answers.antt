use Rattle.change_spef_laws.proofs.ReadLemmas.{others_stay}
use Rattle.change_spef_laws.proofs.laws.other_nets_stay.Goals as goal

pub returns : goal.returns
returns c = others_stay
