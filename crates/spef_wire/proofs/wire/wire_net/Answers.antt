use Rattle.std.proofs.lemmas.Result.{err_from_is_err_and}
use Rattle.spef_wire.proofs.RefusedLemmas.{refused_below}
use Rattle.spef_wire.proofs.wire.wire_net.Goals as goal

pub returns-in_err-wire-clause-refused : goal.returns-in_err-wire-clause-refused
returns-in_err-wire-clause-refused c =
    let p = err_from_is_err_and c.from_residual-in_err-wire.result c.from_residual-in_err-wire.ensures.1 in
    rw (p.1, p.2) (refused_below 17 c.args.spef.now c.args.net.now c.in_ok-found.found.net c.in_err-wire.field-0.0 c.in_ok-found.ensures.tree.named c.in_err-wire.ensures.refused)
