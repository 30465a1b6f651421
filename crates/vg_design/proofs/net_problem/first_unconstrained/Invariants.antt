use Rattle.std.proofs.Common.{◌≡◌, drop}
use Rattle.std.specs.List.{find}
use Rattle.vg_design.specs.Refusals.{is_unconstrained}
use Rattle.vg_design.proofs.net_problem.first_unconstrained.Given as goal

abbrev pub invariant-connection : goal.invariant-connection
invariant-connection l = find (is_unconstrained l.cons l.net) l.net.conns ≡ find (is_unconstrained l.cons l.net) (drop l.conn-index l.net.conns)
