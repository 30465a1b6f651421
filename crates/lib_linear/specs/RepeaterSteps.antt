-- The repeaters among the first cells of a library, cell by cell: for the functions between.
use Rattle.std.specs.Prelude.{◌≡◌, ◌⊎◌, ℕ, ◌<◌, ◌≤◌, List, [], ◌∷◌, ◌++◌, length, take, drop}
use Rattle.lib_text.specs.Groups.{Group}
use Rattle.lib_linear.specs.declared.repeater.Repeater.{Repeater}
use Rattle.lib_cells.specs.declared.units.Units.{Units}
use Rattle.lib_linear.specs.Repeaters.{AreRepeaters, IsNoRepeater, IsRepeater}

-- a cell is no repeater, and no more were found
pub record IsNone (units : Units) (cell : Group) (old new : List Repeater) : Type 0 where
  pub not : IsNoRepeater units cell
  pub same : new ≡ old

-- a cell is one more repeater, and there was room for it
pub record IsTaken (units : Units) (cell : Group) (old new : List Repeater) : Type 0 where
  pub repeater : Repeater
  pub is : IsRepeater units cell repeater
  pub room : length old < 256
  pub more : new ≡ old ++ repeater ∷ []

-- the repeaters with a cell's, if it is one
abbrev pub IsNext : Units → Group → List Repeater → List Repeater → Type 0
IsNext units cell old new = IsNone units cell old new ⊎ IsTaken units cell old new

-- a cell is one more repeater than there is room for
pub record IsOneMore (units : Units) (cell : Group) (old : List Repeater) (place : ℕ) : Type 0 where
  pub repeater : Repeater
  pub is : IsRepeater units cell repeater
  pub full : 256 ≤ length old
  pub here : place ≡ cell.head.name

-- the repeaters among the first cells, so many, are found, and the others are left
pub record HasTaken (units : Units) (cells left : List Group) (at : ℕ) (found : List Repeater) : Type 0 where
  pub within : at ≤ length cells
  pub rest : left ≡ drop at cells
  pub are : AreRepeaters units (take at cells) found
  pub few : length found ≤ 256
