use Rattle.vg_words.proofs.JudgeLemmas.{paired}
use Rattle.vg_words.proofs.laws.outputs_are_paired.Goals as goal

pub returns : goal.returns
returns c = paired
