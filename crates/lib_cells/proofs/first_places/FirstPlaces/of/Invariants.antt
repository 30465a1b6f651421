use Rattle.std.proofs.Common.{take}
use Rattle.lib_cells.specs.PinTables.{AreFirst}
use Rattle.lib_cells.proofs.first_places.FirstPlaces.of.Given as goal

abbrev pub invariant-name : goal.invariant-name
invariant-name l = AreFirst (take l.at l.names) l.first
