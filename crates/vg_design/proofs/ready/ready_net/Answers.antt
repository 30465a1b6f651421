use Rattle.std.proofs.lemmas.Result.{err_from_is_err_and}
use Rattle.vg_design.proofs.NameLemmas.{refused_for}
use Rattle.vg_design.proofs.ready.ready_net.Goals as goal

pub returns-in_err-ready-clause-refused : goal.returns-in_err-ready-clause-refused
returns-in_err-ready-clause-refused c =
    let p = err_from_is_err_and c.from_residual-in_err-ready.result c.from_residual-in_err-ready.ensures.1 in
    rw (p.1, p.2) (refused_for c.args.design.now c.args.name.now c.in_ok-net.net c.in_ok-net.ensures.joined 15 c.in_err-ready.field-0.0 c.in_err-ready.ensures.refused)
