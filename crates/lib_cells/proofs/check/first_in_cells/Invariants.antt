use Rattle.std.proofs.Common.{◌≡◌, flat_map}
use Rattle.lib_cells.specs.FirstFlaws.{first_of}
use Rattle.lib_cells.specs.Flaws.{cell_flaws}
use Rattle.lib_cells.proofs.check.first_in_cells.Given as goal

abbrev pub invariant-cell : goal.invariant-cell
invariant-cell l = record {
  left : first_of l.bytes l.first (flat_map (cell_flaws l.units) l.cell-iterator) ≡ first_of l.bytes l.initial.first (flat_map (cell_flaws l.units) l.initial.cell-iterator);
}
