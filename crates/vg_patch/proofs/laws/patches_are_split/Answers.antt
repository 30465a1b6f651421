use Rattle.vg_patch.proofs.EditLemmas.{split}
use Rattle.vg_patch.proofs.laws.patches_are_split.Goals as goal

pub returns : goal.returns
returns c = λ text edits later e rise. split text 0 edits later e rise
