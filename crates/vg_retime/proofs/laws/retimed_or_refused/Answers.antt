use Rattle.vg_retime.proofs.LawLemmas.{retimed_not_refused}
use Rattle.vg_retime.proofs.laws.retimed_or_refused.Goals as goal

pub returns : goal.returns
returns c = retimed_not_refused
