use Rattle.vg_gen.proofs.LawLemmas.{small}
use Rattle.vg_gen.proofs.laws.values_are_small.Goals as goal

pub returns : goal.returns
returns c = small
