use Rattle.retime_laws.proofs.WayLemmas.{new_nets_are_cut}
use Rattle.retime_laws.proofs.laws.new_nets_are_cut.Goals as goal

pub returns : goal.returns
returns c = new_nets_are_cut
