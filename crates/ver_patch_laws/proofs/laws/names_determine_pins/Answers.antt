use Rattle.ver_patch_laws.proofs.ShapeLemmas.{pins_differ as all_differ}
use Rattle.ver_patch_laws.proofs.laws.names_determine_pins.Goals as goal

pub returns : goal.returns
returns c = all_differ
