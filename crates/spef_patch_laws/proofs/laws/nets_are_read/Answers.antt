use Rattle.spef_patch_laws.proofs.PassLemmas.{nets_are_read as are_read}
use Rattle.spef_patch_laws.proofs.laws.nets_are_read.Goals as goal

pub returns : goal.returns
returns c = are_read
