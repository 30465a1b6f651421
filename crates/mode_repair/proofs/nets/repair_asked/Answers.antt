use Rattle.mode_repair.proofs.RepairLemmas.{asked_repaired}
use Rattle.mode_repair.proofs.nets.repair_asked.Goals as goal

pub returns : goal.returns
returns c =
    asked_repaired c.args.design.now c.args.goal c.args.name.now c.args.judging c.new.result c.with_net.result c.requires.begun c.new.ensures c.with_net.ensures
