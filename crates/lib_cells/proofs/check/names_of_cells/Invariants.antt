use Rattle.std.proofs.Common.{◌≡◌, fold, map}
use Rattle.name_tables.specs.Distinct.{with_name}
use Rattle.lib_cells.specs.Cells.{name_of}
use Rattle.lib_cells.specs.FirstFlaws.{first_of}
use Rattle.lib_cells.specs.Flaws.{twice_flaws}
use Rattle.lib_cells.proofs.check.names_of_cells.Given as goal

abbrev pub invariant-cell : goal.invariant-cell
invariant-cell l = record {
  names : fold with_name l.names (map name_of l.cell-iterator) ≡ fold with_name l.initial.names (map name_of l.initial.cell-iterator);
  first : first_of l.bytes l.first (twice_flaws l.names l.cell-iterator) ≡ first_of l.bytes l.initial.first (twice_flaws l.initial.names l.initial.cell-iterator);
}
