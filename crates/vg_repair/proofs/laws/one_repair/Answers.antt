use Rattle.vg_repair.proofs.RepairLemmas.{one_repair}
use Rattle.vg_repair.proofs.laws.one_repair.Goals as goal

pub returns : goal.returns
returns c = one_repair
