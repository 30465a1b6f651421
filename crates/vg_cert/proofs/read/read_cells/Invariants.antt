use Rattle.vg_cert.specs.Readings.{reading}
use Rattle.vg_cert.proofs.CellLemmas.{AreCellsUpTo}
use Rattle.vg_cert.proofs.read.read_cells.Given as goal

abbrev pub invariant-cell : goal.invariant-cell
invariant-cell l = AreCellsUpTo (reading l.source) l.initial.place.count l.counter l.place l.cells.items l.next
