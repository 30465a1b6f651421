use Rattle.divided_net_laws.proofs.RenumberedNetLemmas.{renumbered}
use Rattle.divided_net_laws.proofs.laws.renumbered_nets_are_divided.Goals as goal

pub returns : goal.returns
returns c = renumbered
