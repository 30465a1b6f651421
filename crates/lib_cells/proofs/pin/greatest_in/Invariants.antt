use Rattle.std.proofs.Common.{◌≡◌, flat_map}
use Rattle.lib_cells.specs.Cells.{greatest, timings}
use Rattle.lib_cells.specs.Pins.{greater, pair_in}
use Rattle.lib_cells.proofs.pin.greatest_in.Given as goal

abbrev pub invariant-timing : goal.invariant-timing
invariant-timing l = record {
  left : greatest (flat_map (pair_in l.rise l.fall l.places) (timings l.pin)) ≡ greater l.best (greatest (flat_map (pair_in l.rise l.fall l.places) l.timing-iterator));
}
