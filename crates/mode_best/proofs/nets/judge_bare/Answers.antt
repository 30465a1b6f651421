use Rattle.mode_best.proofs.CertLemmas.{found_bare}
use Rattle.mode_best.proofs.nets.judge_bare.Goals as goal

pub returns : goal.returns
returns c =
    found_bare c.args.design.now c.args.name.now c.args.net c.args.judging c.in_ok-judging.judging c.in_ok-answer.answer.found c.requires.posed
    c.in_ok-answer.ensures.found c.in_ok-judging.ensures
