use Rattle.std.proofs.Common.{take, filter}
use Rattle.spef_wire.specs.Refusals.{drives}
use Rattle.spef_wire.specs.Steps.{AreDrivers}
use Rattle.spef_wire.proofs.ends.drivers_among.Given as goal

abbrev pub invariant-conn : goal.invariant-conn
invariant-conn l = AreDrivers (filter drives (take l.conn-index l.conns)) l.drivers
