use Rattle.change_netlist_laws.proofs.OtherLemmas.{other_nets_stay}
use Rattle.change_netlist_laws.proofs.laws.other_nets_stay.Goals as goal

pub returns : goal.returns
returns c = other_nets_stay
