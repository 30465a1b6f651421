use Rattle.std.proofs.Common.{◌≡◌, take, is_some}
use Rattle.std.specs.List.{count_by}
use Rattle.vg_cert.proofs.write.count_cells.Given as goal

abbrev pub invariant-cell : goal.invariant-cell
invariant-cell l = l.count ≡ count_by is_some (take l.cell-index l.cells)
