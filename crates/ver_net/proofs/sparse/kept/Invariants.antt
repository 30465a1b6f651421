use Rattle.std.proofs.Common.{take}
use Rattle.ver_net.specs.Connections.{terminals_from}
use Rattle.ver_net.specs.Tables.{AreKept}
use Rattle.ver_net.proofs.sparse.kept.Given as goal

abbrev pub invariant-instance : goal.invariant-instance
invariant-instance l = AreKept (terminals_from 0 (take l.at l.netlist.instances)) l.rows
