use Rattle.retime_laws.proofs.TimedLemmas.{stages_are_timed}
use Rattle.retime_laws.proofs.laws.stages_are_timed.Goals as goal

pub returns : goal.returns
returns c = stages_are_timed
