use Rattle.std.proofs.lemmas.Result.{err_from_is_err_and}
use Rattle.spef_wire.proofs.RefusedLemmas.{refused_below}
use Rattle.spef_wire.proofs.tree.net_tree.Goals as goal

pub returns-in_err-built-clause-refused : goal.returns-in_err-built-clause-refused
returns-in_err-built-clause-refused c =
    let p = err_from_is_err_and c.from_residual-in_err-built.result c.from_residual-in_err-built.ensures.1 in
    rw (p.1, p.2) (refused_below 15 c.args.spef.now c.args.net.now c.in_ok-net.net c.in_err-built.field-0.0 c.in_ok-net.ensures.net c.in_err-built.ensures.refused)
