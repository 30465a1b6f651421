use Rattle.spef_patch_laws.proofs.PatchLemmas.{ends_keep}
use Rattle.spef_patch_laws.proofs.laws.ends_keep_comments.Goals as goal

pub returns : goal.returns
returns c = ends_keep
