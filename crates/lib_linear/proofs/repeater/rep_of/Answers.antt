use Rattle.std.proofs.Common.{sym, subst}
use Rattle.std.proofs.lemmas.Option.{MatchOption-at_none}
use Rattle.lib_cells.specs.PinInfos.{PinInfo}
use Rattle.lib_linear.specs.Repeaters.{Follows}
use Rattle.lib_linear.proofs.repeater.rep_of.Goals as goal

pub returns-in_err-inverts : goal.returns-in_err-inverts
returns-in_err-inverts c =
    rw c.from_residual.ensures
    (λ rep h.
    MatchOption-at_none _ _ c.in_err-inverts.was c.follows.ensures rep.inverts
    (subst (λ (input : PinInfo). Follows c.args.units c.args.cell.now input.name rep.inverts) (sym c.input.view_is) h.follows))
