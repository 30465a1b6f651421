use Rattle.vg_words.proofs.JudgeLemmas.{caps}
use Rattle.vg_words.proofs.laws.caps_are_read.Goals as goal

pub returns : goal.returns
returns c = caps
