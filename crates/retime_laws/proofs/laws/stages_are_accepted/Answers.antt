use Rattle.retime_laws.proofs.AcceptLemmas.{stages_are_accepted}
use Rattle.retime_laws.proofs.laws.stages_are_accepted.Goals as goal

pub returns : goal.returns
returns c = stages_are_accepted
