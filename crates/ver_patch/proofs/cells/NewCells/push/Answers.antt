use Rattle.ver_patch.specs.NewCells.{cell_of}
use Rattle.ver_patch.proofs.PlaceLemmas.{cells_more}
use Rattle.ver_patch.proofs.cells.NewCells.push.Goals as goal

pub returns-in-Ok-push-clause-last : goal.returns-in-Ok-push-clause-last
returns-in-Ok-push-clause-last c =
    cells_more c.self.inside.text.items c.put_texts.new.to.items c.self.inside.places.items c.push.new.self.items c.in-Ok.place c.args.self.now (cell_of c.args.cell.now)
    c.self.invariant c.self.view_is c.in-Ok.ensures.last c.in-Ok.ensures.places c.in-Ok-push.ensures.items
