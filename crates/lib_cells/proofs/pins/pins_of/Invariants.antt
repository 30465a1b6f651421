use Rattle.std.proofs.Common.{◌≡◌, ◌++◌, flat_map, map}
use Rattle.lib_text.specs.Groups.{names_of}
use Rattle.lib_cells.specs.Cells.{pin_info, pins_of}
use Rattle.lib_cells.specs.PinTables.{IsPinTable, pins_by}
use Rattle.lib_cells.proofs.pins.pins_of.Given as goal

abbrev pub invariant-pin : goal.invariant-pin
invariant-pin l = record {
  table : IsPinTable l.table;
  left : pins_by l.table ++ flat_map (λ pin. map (pin_info l.units pin) (names_of pin)) l.pin-iterator ≡ pins_of l.units l.cell;
}
