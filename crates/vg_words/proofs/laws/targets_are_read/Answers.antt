use Rattle.vg_words.proofs.JudgeLemmas.{targets}
use Rattle.vg_words.proofs.laws.targets_are_read.Goals as goal

pub returns : goal.returns
returns c = targets
