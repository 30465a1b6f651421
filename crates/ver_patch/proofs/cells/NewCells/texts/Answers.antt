use Rattle.std.proofs.Common.{◌∙◌, ap, sym}
use Rattle.ver_patch.specs.CellPlaces.{cell_in}
use Rattle.ver_patch.proofs.PlaceLemmas.{cell_by, item_at}
use Rattle.ver_patch.proofs.cells.NewCells.texts.Goals as goal

pub returns : goal.returns
returns c =
    let p = c.index-place.result.now in
    item_at (cell_in c.self.inside.text.items) c.self.inside.places.items c.args.self.now c.args.number p _ c.self.view_is c.requires
    (ap (cell_in c.self.inside.text.items) (sym c.index-place.ensures)
    ∙ cell_by c.as_slice-text.result.now c.self.inside.text.items p _ c.as_slice-text.ensures.value c.between.ensures c.between-2.ensures c.between-3.ensures c.between-4.ensures c.between-5.ensures c.between-6.ensures)
