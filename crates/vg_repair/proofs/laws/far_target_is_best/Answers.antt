use Rattle.vg_repair.proofs.RepairLemmas.{far_best}
use Rattle.vg_repair.proofs.laws.far_target_is_best.Goals as goal

pub returns : goal.returns
returns c = far_best
