use Rattle.spef_patch_laws.proofs.KeptLemmas.{lines_kept}
use Rattle.spef_patch_laws.proofs.laws.lines_are_read_elsewhere.Goals as goal

pub returns : goal.returns
returns c = lines_kept
