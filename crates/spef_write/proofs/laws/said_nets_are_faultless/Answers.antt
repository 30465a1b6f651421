use Rattle.spef_write.proofs.ClearLemmas.{said_nets_are_faultless as law}
use Rattle.spef_write.proofs.laws.said_nets_are_faultless.Goals as goal

pub returns : goal.returns
returns c = law
