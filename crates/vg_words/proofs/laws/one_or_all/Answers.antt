use Rattle.vg_words.proofs.JudgeLemmas.{one_or_all}
use Rattle.vg_words.proofs.laws.one_or_all.Goals as goal

pub returns : goal.returns
returns c = one_or_all
