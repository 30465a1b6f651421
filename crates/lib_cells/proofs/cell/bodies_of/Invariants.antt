use Rattle.std.proofs.Common.{◌≡◌, ◌++◌, map}
use Rattle.lib_cells.specs.Cells.{bodies_of, cell_body}
use Rattle.lib_cells.proofs.cell.bodies_of.Given as goal

abbrev pub invariant-cell : goal.invariant-cell
invariant-cell l = record { left : l.bodies.items ++ map (cell_body l.units) l.cell-iterator ≡ bodies_of l.units l.library }
