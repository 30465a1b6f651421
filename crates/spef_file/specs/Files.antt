-- What a SPEF file says, and its first fault.
use Rattle.std.specs.Prelude.{◌≡◌, ℕ, ℤ, pos, ◌<◌, ◌≤◌, ◌⊎◌, max, List, length}
use Rattle.vg_scan.specs.Lines.{Line, lines_of}
use Rattle.vg_scan.specs.Comments.{without_comments}
use Rattle.vg_scan.specs.declared.comments.Comments.TheVariants.{Spef}
use Rattle.vg_scan.specs.declared.chars.Chars.{Chars}
use Rattle.vg_scan.specs.Faults.{IsClear, IsFirstFault}
use Rattle.spef_file.specs.declared.fault.SpefKind.{SpefKind}
use Rattle.spef_file.specs.declared.fault.SpefKind.TheVariants.{Header}
use Rattle.vg_scan.specs.declared.fault.LineFault.{LineFault}
use Rattle.spef_file.specs.Nets.{NetHead}
use Rattle.spef_file.specs.HeaderLines.{spoken, chars_of, c_places_of, r_places_of}
use Rattle.spef_file.specs.Statements.{rows_of, nets_of}
use Rattle.spef_file.specs.Faults.{fault_at}

-- what a file says: how its names and numbers are meant, the digits and the name of each index, and the heads of its
-- nets
pub record File : Type 0 where
  pub chars : Chars
  pub c_places : ℤ
  pub r_places : ℤ
  pub names : List (List ℕ × List ℕ)
  pub nets : List NetHead

-- what the lines of a file say
abbrev pub said_by : List Line → File
said_by lines =
    record { chars = chars_of lines; c_places = pos (c_places_of lines); r_places = pos (r_places_of lines); names = rows_of lines; nets = nets_of lines }

-- the lines of a file without its comments
abbrev pub file_lines : List ℕ → List Line
file_lines text = lines_of (without_comments Spef text)

-- a text says this: no line has a fault, the header has all its lines, and the lines say it
pub record IsFileOf (text : List ℕ) (file : File) : Type 0 where
  pub clear : IsClear (fault_at (file_lines text)) (length (file_lines text))
  pub headed : 14 ≤ length (spoken (file_lines text))
  pub says : file ≡ said_by (file_lines text)

-- a header line is missing, and no line has a fault: it is told at the last line
-- so a fault that the last line has by itself comes first
pub record IsHeaderless (lines : List Line) (fault : LineFault SpefKind) : Type 0 where
  pub clear : IsClear (fault_at lines) (length lines)
  pub short : length (spoken lines) < 14
  pub kind : fault.kind ≡ Header
  pub last : fault.line ≡ max (length lines) 1

-- the first fault of a text
abbrev pub IsFileFault : List ℕ → LineFault SpefKind → Type 0
IsFileFault text fault =
    IsFirstFault (fault_at (file_lines text)) (length (file_lines text)) 1 fault ⊎ IsHeaderless (file_lines text) fault
