use Rattle.ver_patch_text_laws.proofs.LawLemmas.{modules_stay as all_stay}
use Rattle.ver_patch_text_laws.proofs.laws.modules_stay.Goals as goal

pub returns : goal.returns
returns c = all_stay
