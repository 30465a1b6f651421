use Rattle.mode_repair.proofs.RepairLemmas.{refused_one}
use Rattle.mode_repair.proofs.nets.Repairing.with_refused.Goals as goal

pub returns : goal.returns
returns c = λ d wants first.
    refused_one d wants c.args.name.now c.args.self c.in_ok-judging.judging c.with.result c.args.refusal.now first c.in_ok-judging.ensures c.with.ensures
