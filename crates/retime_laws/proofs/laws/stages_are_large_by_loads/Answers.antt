use Rattle.retime_laws.proofs.LimitLemmas.{stages_are_large_by_loads}
use Rattle.retime_laws.proofs.laws.stages_are_large_by_loads.Goals as goal

pub returns : goal.returns
returns c = stages_are_large_by_loads
