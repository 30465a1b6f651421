use Rattle.spef_patch_laws.proofs.OwnNameLemmas.{own_names}
use Rattle.spef_patch_laws.proofs.laws.own_names_are_free.Goals as goal

pub returns : goal.returns
returns c = own_names
