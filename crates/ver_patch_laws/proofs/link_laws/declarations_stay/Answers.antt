use Rattle.ver_patch_laws.proofs.DeclareLemmas.{declarations_stay as all_stay}
use Rattle.ver_patch_laws.proofs.link_laws.declarations_stay.Goals as goal

pub returns : goal.returns
returns c = all_stay
