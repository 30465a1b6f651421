use Rattle.retime_laws.proofs.RetimeLemmas.{placed_nets_are_refused}
use Rattle.retime_laws.proofs.laws.placed_nets_are_refused.Goals as goal

pub returns : goal.returns
returns c = placed_nets_are_refused
