use Rattle.retime_laws.proofs.NetLemmas.{stages_have_nets}
use Rattle.retime_laws.proofs.laws.stages_have_nets.Goals as goal

pub returns : goal.returns
returns c = stages_have_nets
