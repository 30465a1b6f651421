use Rattle.cut_laws.proofs.CutClimbLemmas.{cut_climbs}
use Rattle.cut_laws.proofs.laws.cut_nets_climb.Goals as goal

pub returns : goal.returns
returns c = cut_climbs
