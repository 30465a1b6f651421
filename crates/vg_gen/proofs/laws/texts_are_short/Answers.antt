use Rattle.vg_gen.proofs.SizeLemmas.{short}
use Rattle.vg_gen.proofs.laws.texts_are_short.Goals as goal

pub returns : goal.returns
returns c = short
