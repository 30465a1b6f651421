use Rattle.spef_patch_laws.proofs.CellLemmas.{with_cells}
use Rattle.spef_patch_laws.proofs.laws.notes_with_cells_are_quiet.Goals as goal

pub returns : goal.returns
returns c = with_cells
