-- A pin of a cell.
use Rattle.std.specs.Prelude.{ℕ, List, Option}
use Rattle.lib_cells.specs.declared.pin.PinDir.{PinDir}

-- Its name, its direction, its capacitance (aF), its delay without a load (zs) and its resistance (mΩ), the greatest
-- load that it may charge (aF), and the pins that it names as related.
pub record PinInfo : Type 0 where
  pub name : List ℕ
  pub direction : PinDir
  pub cap : Option ℕ
  pub drive : Option (ℕ × ℕ)
  pub max : Option ℕ
  pub related : List (List ℕ)
