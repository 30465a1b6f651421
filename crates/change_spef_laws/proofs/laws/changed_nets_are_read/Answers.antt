use Rattle.change_spef_laws.proofs.ReadLemmas.{changed_nets}
use Rattle.change_spef_laws.proofs.laws.changed_nets_are_read.Goals as goal

pub returns : goal.returns
returns c = changed_nets
