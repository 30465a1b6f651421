use Rattle.vg_words.proofs.JudgeLemmas.{small}
use Rattle.vg_words.proofs.laws.sizes_are_small.Goals as goal

pub returns : goal.returns
returns c = small
