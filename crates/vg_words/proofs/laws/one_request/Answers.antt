use Rattle.vg_words.proofs.JudgeLemmas.{one}
use Rattle.vg_words.proofs.laws.one_request.Goals as goal

pub returns : goal.returns
returns c = one
