use Rattle.vg_patch.proofs.EditLemmas.{kept_stay}
use Rattle.vg_patch.proofs.laws.kept_parts_stay.Goals as goal

pub returns : goal.returns
returns c = λ text edits rise. kept_stay text 0 edits rise
