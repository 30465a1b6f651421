use Rattle.spef_net.proofs.OtherLemmas.{other_nets_count_not}
use Rattle.spef_net.proofs.laws.other_nets_count_not.Goals as goal

pub returns : goal.returns
returns c = other_nets_count_not
