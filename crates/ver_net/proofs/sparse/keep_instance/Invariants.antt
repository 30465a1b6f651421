use Rattle.std.proofs.Common.{◌++◌, take}
use Rattle.ver_net.specs.Connections.{terminals_at, terminals_from}
use Rattle.ver_net.specs.Tables.{AreKept}
use Rattle.ver_net.proofs.sparse.keep_instance.Given as goal

abbrev pub invariant-pin : goal.invariant-pin
invariant-pin l = AreKept (terminals_from 0 (take l.at l.netlist.instances) ++ terminals_at l.at 0 (take l.pin l.instance.pins)) l.rows
