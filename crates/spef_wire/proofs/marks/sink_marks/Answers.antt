use Rattle.std.proofs.Common.{◌≡◌, arith, ap, length, get_or, List}
use Rattle.spef_net.specs.declared.net.ParConn.{ParConn}
use Rattle.spef_net.specs.declared.net.ConnKind.TheVariants.{Pin}
use Rattle.spef_net.specs.declared.net.Direction.TheVariants.{In}
use Rattle.spef_net.proofs.NetLemmas.{conns_within}
use Rattle.spef_wire.proofs.marks.sink_marks.Goals as goal

pub mark-requires : goal.mark-requires
mark-requires c =
    let net = c.args.net.now in
    let i = c.connection.conn-index in
    let first : ParConn = record { kind = Pin; node = 0; direction = In } in
    let size : length c.as_slice-conn-items.result.now ≡ length net.conns = ap length c.as_slice-conn-items.ensures in
    let h = conns_within net i first (omega (arith, size, c.connection-test.true)) in
    let is : (get_or c.as_slice-conn-items.result.now i first).node ≡ (get_or net.conns i first).node = ap (λ (conns : List ParConn). (get_or conns i first).node) c.as_slice-conn-items.ensures in
    let count = c.deref_mut.ensures.len in
    omega (arith, h, is, count, c.connection.invariant.0)
