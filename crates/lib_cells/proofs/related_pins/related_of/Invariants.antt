use Rattle.std.proofs.Common.{◌≡◌, flat_map, fold}
use Rattle.name_tables.specs.Distinct.{with_name}
use Rattle.lib_cells.specs.Cells.{related_in}
use Rattle.lib_cells.proofs.related_pins.related_of.Given as goal

abbrev pub invariant-timing : goal.invariant-timing
invariant-timing l = record {
  left : fold with_name l.names (flat_map related_in l.timing-iterator) ≡ fold with_name l.initial.names (flat_map related_in l.initial.timing-iterator);
}
