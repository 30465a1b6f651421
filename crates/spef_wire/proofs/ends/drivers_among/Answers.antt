use Rattle.spef_wire.proofs.EndLemmas.{drivers_more}
use Rattle.spef_wire.proofs.ends.drivers_among.Goals as goal

pub conn-preserved : goal.conn-preserved
conn-preserved c = drivers_more c.args.conns.now c.conn.conn-index _ c.conn.drivers c.with_conn-drivers.result c.conn-test.true c.conn.invariant c.with_conn-drivers.ensures
