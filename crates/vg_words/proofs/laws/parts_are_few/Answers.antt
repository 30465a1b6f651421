use Rattle.vg_words.proofs.JudgeLemmas.{few}
use Rattle.vg_words.proofs.laws.parts_are_few.Goals as goal

pub returns : goal.returns
returns c = few
