use Rattle.retime_laws.proofs.RetimeLemmas.{stages_retime}
use Rattle.retime_laws.proofs.laws.stages_retime.Goals as goal

pub returns : goal.returns
returns c = stages_retime
