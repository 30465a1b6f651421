use Rattle.ver_patch_laws.proofs.ShapeLemmas.{pins_are_renewed as all_renewed}
use Rattle.ver_patch_laws.proofs.laws.pins_are_renewed.Goals as goal

pub returns : goal.returns
returns c = all_renewed
