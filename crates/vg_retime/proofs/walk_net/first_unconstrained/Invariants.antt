use Rattle.std.proofs.Common.{◌≡◌, drop}
use Rattle.std.specs.List.{find}
use Rattle.vg_retime.specs.Refusals.{is_unconstrained_here}
use Rattle.vg_retime.proofs.walk_net.first_unconstrained.Given as goal

abbrev pub invariant-connection : goal.invariant-connection
invariant-connection l =
    find (is_unconstrained_here l.design l.prefix l.net.net) l.net.net.par.conns
    ≡ find (is_unconstrained_here l.design l.prefix l.net.net) (drop l.conn-index l.net.net.par.conns)
