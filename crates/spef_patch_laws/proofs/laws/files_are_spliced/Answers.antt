use Rattle.spef_patch_laws.proofs.FileLemmas.{files_are_spliced as are_spliced}
use Rattle.spef_patch_laws.proofs.laws.files_are_spliced.Goals as goal

pub returns : goal.returns
returns c = are_spliced
