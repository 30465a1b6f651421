use Rattle.vg_verdict.proofs.TextLemmas.{one_judgement}
use Rattle.vg_verdict.proofs.laws.judgements_are_one.Goals as goal

pub returns : goal.returns
returns c = one_judgement
