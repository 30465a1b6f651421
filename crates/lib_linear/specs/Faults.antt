-- The faults of a library, each with its line: those of the first pass that finds any, and of these the first.
use Rattle.std.specs.Prelude.{◌≡◌, ℕ, List, []}
use Rattle.vg_scan.specs.declared.fault.LineFault.{LineFault}
use Rattle.lib_text.specs.Groups.{Group}
use Rattle.lib_text.specs.Syntax.{IsLibrary, IsSyntaxFault, line_at}
use Rattle.lib_cells.specs.declared.fault.LibKind.{LibKind}
use Rattle.lib_cells.specs.declared.fault.LibKind.TheVariants.{Syntax, TooManyRepeaters}
use Rattle.lib_cells.specs.declared.units.Units.{Units}
use Rattle.lib_cells.specs.Cells.{cell_groups}
use Rattle.lib_cells.specs.Flaws.{IsFirst, header_flaws, value_flaws}
use Rattle.lib_linear.specs.Libraries.{library_in_bytes, plain}
use Rattle.lib_linear.specs.Repeaters.{IsOver}
use Rattle.lib_cells.specs.Units.{units_of}

-- the text without comments and continued line ends is no library, and this is the line of the first token that the
-- grammar does not allow, or the last line where the text ends before
pub record IsFirstSyntaxFault (bytes : List ℕ) (fault : LineFault LibKind) : Type 0 where
  pub place : ℕ
  pub kind : fault.kind ≡ Syntax
  pub broken : IsSyntaxFault (plain bytes) place
  pub line : fault.line ≡ line_at bytes place

-- the 257th repeater of a library begins on this line
pub record HasTooMany (bytes : List ℕ) (units : Units) (library : Group) (fault : LineFault LibKind) : Type 0 where
  pub place : ℕ
  pub over : IsOver units (cell_groups library) place
  pub kind : fault.kind ≡ TooManyRepeaters
  pub line : fault.line ≡ line_at bytes place

-- This is the fault of a library's statements that is told: the first of its model and its units; where these have
-- none, the first of its cells; where these have none either, the 257th repeater.
pub data IsLibraryFault (bytes : List ℕ) (library : Group) (fault : LineFault LibKind) : Type 0 where
  in_header : IsFirst bytes (header_flaws library) fault → IsLibraryFault bytes library fault
  in_cells : header_flaws library ≡ [] → IsFirst bytes (value_flaws (units_of library) library) fault
      → IsLibraryFault bytes library fault
  in_count : header_flaws library ≡ [] → value_flaws (units_of library) library ≡ []
      → HasTooMany bytes (units_of library) library fault → IsLibraryFault bytes library fault

-- this is the fault of a text that is told: of its syntax, and else of its statements
pub data IsFirstFault (bytes : List ℕ) (fault : LineFault LibKind) : Type 0 where
  in_syntax : IsFirstSyntaxFault bytes fault → IsFirstFault bytes fault
  in_library : IsLibrary (plain bytes) → IsLibraryFault bytes (library_in_bytes bytes) fault → IsFirstFault bytes fault
