use Rattle.vg_verdict.proofs.ShownLemmas.{valid_best}
use Rattle.vg_verdict.proofs.laws.valid_ones_are_best.Goals as goal

pub returns : goal.returns
returns c = valid_best
