-- A cell of a library.
use Rattle.std.specs.Prelude.{ℕ, List}
use Rattle.lib_cells.specs.PinInfos.{PinInfo}

-- Its name, its pins and its area (thousandths).
pub record CellInfo : Type 0 where
  pub name : List ℕ
  pub pins : List PinInfo
  pub area : ℕ
