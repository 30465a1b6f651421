use Rattle.retime_laws.proofs.LoadLemmas.{stages_have_loads}
use Rattle.retime_laws.proofs.laws.stages_have_loads.Goals as goal

pub returns : goal.returns
returns c = stages_have_loads
