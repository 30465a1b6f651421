use Rattle.split_laws.proofs.CutLemmas.{stages_are_cut}
use Rattle.split_laws.proofs.laws.stages_are_cut.Goals as goal

pub returns : goal.returns
returns c = stages_are_cut
