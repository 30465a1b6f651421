-- The names of a library's repeaters. Source: Liberty User Guide, Synopsys, on the groups `cell` and `pin`.
use Rattle.std.specs.Prelude.{◌≡◌, ℕ, ◌-◌, ◌==◌, ◌||◌, Bool, true, false, List, length, slice_index}
use Rattle.std.specs.List.{All}
use Rattle.vg_scan.specs.Lines.{is_blank}
use Rattle.vg_scan.specs.Printed.{IsPrintable}
use Rattle.lib_text.specs.Arguments.{is_name}
use Rattle.lib_linear.specs.Libraries.{Cells, Denotes}
use Rattle.lib_linear.specs.declared.repeater.Repeater.{Repeater}

-- the names of a repeater and of its pins are not empty, and each of their bytes is from 33 to 126
pub record HasNames (r : Repeater) : Type 0 where
  pub cell : is_name r.cell ≡ true
  pub input : is_name r.input ≡ true
  pub output : is_name r.output ≡ true

-- a blank or a carriage return
abbrev pub is_blank_or_return : ℕ → Bool
is_blank_or_return b = is_blank b || (b == 13)

-- the names of a repeater and of its pins can be words; the cell's has no blank and no carriage return at its end
pub record HasPrintableNames (r : Repeater) : Type 0 where
  pub cell : IsPrintable r.cell
  pub ends : is_blank_or_return (slice_index r.cell (length r.cell - 1)) ≡ false
  pub input : IsPrintable r.input
  pub output : IsPrintable r.output

-- The repeaters of a library have names: in its text a cell has one name and a pin one or more.
abbrev pub NamesAreNames : Type 0
NamesAreNames = (bytes : List ℕ) (said : Cells) → Denotes bytes said → All HasNames said.repeaters

-- So their names can be words.
abbrev pub NamesAreWords : Type 0
NamesAreWords = (bytes : List ℕ) (said : Cells) → Denotes bytes said → All HasPrintableNames said.repeaters
