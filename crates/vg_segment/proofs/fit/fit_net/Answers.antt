use Rattle.std.proofs.lemmas.Result.{err_from_is_err_and}
use Rattle.vg_segment.proofs.FitLemmas.{refused_named}
use Rattle.vg_segment.proofs.fit.fit_net.Goals as goal

pub returns-in_err-judge-clause-refused : goal.returns-in_err-judge-clause-refused
returns-in_err-judge-clause-refused c =
    let p = err_from_is_err_and c.from_residual-in_err-judge.result c.from_residual-in_err-judge.ensures.1 in
    rw (p.1, p.2)
    (refused_named c.args.spef.now c.args.parts c.args.name.now c.in_ok-net.net c.in_err-judge.field-0.0 c.in_ok-net.ensures.net c.in_err-judge.ensures.refused)
