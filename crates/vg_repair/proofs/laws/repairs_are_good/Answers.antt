use Rattle.vg_repair.proofs.RepairLemmas.{repair_good}
use Rattle.vg_repair.proofs.laws.repairs_are_good.Goals as goal

pub returns : goal.returns
returns c = repair_good
