use Rattle.spef_patch_laws.proofs.PatchLemmas.{patches_keep}
use Rattle.spef_patch_laws.proofs.laws.patches_keep_comments.Goals as goal

pub returns : goal.returns
returns c = patches_keep
