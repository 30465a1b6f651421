use Rattle.change_laws.proofs.RetimeLemmas.{placed_nets_retime}
use Rattle.change_laws.proofs.laws.placed_nets_retime_in_texts.Goals as goal

pub returns : goal.returns
returns c = placed_nets_retime
