use Rattle.spef_wire.proofs.SinkLemmas.{no_rows}
use Rattle.spef_wire.proofs.sink_delays.SinkDelays.new.Goals as goal

pub returns : goal.returns
returns c = no_rows c.new.result c.new-2.result c.new-3.result.items c.new-3.ensures.items
