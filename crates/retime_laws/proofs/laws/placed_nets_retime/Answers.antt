use Rattle.retime_laws.proofs.RetimeLemmas.{placed_nets_retime}
use Rattle.retime_laws.proofs.laws.placed_nets_retime.Goals as goal

pub returns : goal.returns
returns c = placed_nets_retime
