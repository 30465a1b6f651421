use Rattle.std.proofs.Common.{ap, arith, length}
use Rattle.spef_wire.proofs.SinkLemmas.{rows_count}
use Rattle.spef_wire.proofs.sink_delays.SinkDelays.len.Goals as goal

pub returns : goal.returns
returns c =
    let s = c.self.inside in
    omega (arith, c.len.ensures, rows_count s.owners s.leaves s.delays.items c.self.invariant.0 c.self.invariant.1, ap length c.self.view_is)
