use Rattle.vg_check.proofs.OneLemmas.{one_verdict}
use Rattle.vg_check.proofs.laws.one_verdict.Goals as goal

pub returns : goal.returns
returns c = one_verdict
