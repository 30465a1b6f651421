use Rattle.spef_patch_laws.proofs.ChangeLemmas.{texts_have_changes as have_changes}
use Rattle.spef_patch_laws.proofs.laws.texts_have_changes.Goals as goal

pub returns : goal.returns
returns c = have_changes
