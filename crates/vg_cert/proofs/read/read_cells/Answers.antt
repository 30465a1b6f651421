use Rattle.vg_cert.specs.Readings.{reading}
use Rattle.vg_cert.proofs.CellLemmas.{cells_more}
use Rattle.vg_cert.proofs.read.read_cells.Goals as goal

pub cell-preserved : goal.cell-preserved
cell-preserved c =
    let p = c.in_ok-node.ensures in
    cells_more (reading c.args.source.now) c.args.place.now.count c.cell.counter c.args.count c.cell.place c.read_at.new.place c.cell.cells.items c.cell.next c.in_ok-node.node c.in_ok-node.cell c.requires.due
    c.cell-test.true c.cell.invariant p.0 p.1 p.2
