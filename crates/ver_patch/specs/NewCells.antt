-- An instance that is put in.
use Rattle.std.specs.Prelude.{ℕ, List}
use Rattle.ver_patch.specs.declared.cells.CellTexts.{CellTexts}

-- An instance that is put in: its cell, its own name, the cell's input and output pin, and the texts of the nets at
-- them.
pub record NewCell : Type 0 where
  pub cell : List ℕ
  pub name : List ℕ
  pub input : List ℕ
  pub output : List ℕ
  pub from : List ℕ
  pub to : List ℕ

-- the one of these texts
abbrev pub cell_of : CellTexts → NewCell
cell_of c =
    record { cell = c.cell.now; name = c.name.now; input = c.input.now; output = c.output.now; from = c.from.now; to = c.to.now }
