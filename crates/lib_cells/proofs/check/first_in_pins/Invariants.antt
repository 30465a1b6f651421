use Rattle.std.proofs.Common.{◌≡◌, flat_map}
use Rattle.lib_cells.specs.FirstFlaws.{first_of}
use Rattle.lib_cells.specs.Flaws.{pin_flaws}
use Rattle.lib_cells.proofs.check.first_in_pins.Given as goal

abbrev pub invariant-pin : goal.invariant-pin
invariant-pin l = record {
  left : first_of l.bytes l.first (flat_map (pin_flaws l.units) l.pin-iterator) ≡ first_of l.bytes l.initial.first (flat_map (pin_flaws l.units) l.initial.pin-iterator);
}
