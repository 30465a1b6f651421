-- The widths of a text, and its first fault.
use Rattle.std.specs.Prelude.{◌≡◌, ◌⊎◌, ℕ, zero, suc, ◌==◌, ◌&&◌, nat_lt, not, max, map, drop, Bool, List, [], ◌∷◌, length, slice_index_or, Option, Some, None, Result, Ok, Err, if◌then◌else◌}
use Rattle.vg_scan.specs.Lines.{Line}
use Rattle.vg_scan.specs.Faults.{IsClear, IsFirstFault}
use Rattle.vg_scan.specs.declared.fault.LineFault.{LineFault}
use Rattle.vg_width.specs.declared.fault.WidthKind.{WidthKind}
use Rattle.vg_width.specs.declared.fault.WidthKind.TheVariants.{Version, First, TooMany}
use Rattle.vg_width.specs.Lines.{is_heading, width_of}
use Rattle.wire_widths.specs.declared.width.Width.{Width}

-- `1 1 0`
abbrev pub is_plain : Width → Bool
is_plain width = (width.num == 1) && ((width.den == 1) && (width.add == 0))

-- the fault of what a line states after the heading and i widths
abbrev pub fault_after : ℕ → Result Width WidthKind → Option WidthKind
fault_after i (Err kind) = Some kind
fault_after i (Ok width) =
    if (i == 0) && not (is_plain width) then Some First else (if nat_lt 7 i then Some TooMany else None)

-- the fault of a line that has so many lines before it
abbrev pub fault_of : ℕ → Line → Option WidthKind
fault_of zero line = if is_heading line then None else Some Version
fault_of (suc i) line = fault_after i (width_of line)

-- the fault of the line at a place
abbrev pub fault_at : List Line → ℕ → Option WidthKind
fault_at lines i = fault_of i (slice_index_or lines i [])

-- what the end of a text comes too early for: the heading, or the first width
abbrev pub missing : List Line → Option WidthKind
missing [] = Some Version
missing (heading ∷ []) = Some First
missing (heading ∷ width ∷ lines) = None

-- the lines are the heading and these widths, with no fault
pub record AreLinesOf (lines : List Line) (rows : List Width) : Type 0 where
  pub clear : IsClear (fault_at lines) (length lines)
  pub whole : missing lines ≡ None
  pub widths : map width_of (drop 1 lines) ≡ map Ok rows

-- the lines have no fault, but one is missing after the last
pub record IsCutShort (lines : List Line) (fault : LineFault WidthKind) : Type 0 where
  pub clear : IsClear (fault_at lines) (length lines)
  pub kind : missing lines ≡ Some fault.kind
  pub last : fault.line ≡ max (length lines) 1

-- a text's fault
abbrev pub IsFaultIn : List Line → LineFault WidthKind → Type 0
IsFaultIn lines fault = IsFirstFault (fault_at lines) (length lines) 1 fault ⊎ IsCutShort lines fault
