use Rattle.mode_best.proofs.CertLemmas.{asked_certified}
use Rattle.mode_best.proofs.nets.judge_asked.Goals as goal

pub returns : goal.returns
returns c = λ asked named wanted.
    asked_certified c.args.design.now c.args.judging.changes.prefix c.args.name.now c.args.is_certified c.args.judging asked c.judge_net.result c.requires.empty named
    wanted c.judge_net.ensures
