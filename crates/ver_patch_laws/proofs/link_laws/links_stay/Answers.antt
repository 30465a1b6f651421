use Rattle.ver_patch_laws.proofs.LinkedLemmas.{links_stay as all_stay}
use Rattle.ver_patch_laws.proofs.link_laws.links_stay.Goals as goal

pub returns : goal.returns
returns c = all_stay
