-- The fault of a line, given the lines before it, and the first fault of a text.
use Rattle.std.specs.Prelude.{◌≡◌, ℕ, max, true, false, List, [], length, take, slice_index_or, is_some, Option, Some, None, Result, Ok, Err, if◌then◌else◌, ◌⊎◌}
use Rattle.std.specs.List.{list_any}
use Rattle.vg_scan.specs.declared.fault.LineFault.{LineFault}
use Rattle.vg_scan.specs.Faults.{IsClear, IsFirstFault}
use Rattle.vg_cons.specs.declared.fault.ConsKind.{ConsKind}
use Rattle.vg_cons.specs.declared.fault.ConsKind.TheVariants.{Version, Word, Twice}
use Rattle.vg_cons.specs.declared.format.Format.{Format}
use Rattle.vg_cons.specs.declared.format.Format.TheVariants.{First, Second}
use Rattle.vg_cons.specs.Lines.{Line, has_words, heading_of}
use Rattle.vg_cons.specs.Statements.{Statement, statement_of, is_of_second}
use Rattle.vg_cons.specs.Rows.{Rows, rows_of, is_again}

-- the fault of what is stated, given the rows before it
abbrev pub fault_of_statement : Rows → Result Statement ConsKind → Option ConsKind
fault_of_statement rows (Ok statement) = if is_again rows statement then Some Twice else None
fault_of_statement rows (Err kind) = Some kind

-- the fault of a line with words: the first one is the heading, and the others state rows that its version has
abbrev pub fault_of_words : Option Format → Rows → Line → Option ConsKind
fault_of_words None rows line = if is_some (heading_of line) then None else Some Version
fault_of_words (Some First) rows line =
    if is_of_second line then Some Word else fault_of_statement rows (statement_of line)
fault_of_words (Some Second) rows line = fault_of_statement rows (statement_of line)

-- the fault of a line, given the version and the rows before it
abbrev pub fault_after : Rows → Line → Option ConsKind
fault_after rows line = if has_words line then fault_of_words rows.format rows line else None

-- the fault of a line, given the lines before it
unfoldable pub fault_of : List Line → Line → Option ConsKind
fault_of before line = fault_after (rows_of before) line

-- the fault of the line at a place, given the lines before it
abbrev pub fault_at : List Line → ℕ → Option ConsKind
fault_at lines i = fault_of (take i lines) (slice_index_or lines i [])

-- no line has a fault, and there is a heading: a line has words, and the first such line has no fault
pub record IsFaultless (lines : List Line) : Type 0 where
  pub clear : IsClear (fault_at lines) (length lines)
  pub heading : list_any has_words lines ≡ true

-- no line has words: the heading is missing at the last line
pub record IsMissing (lines : List Line) (fault : LineFault ConsKind) : Type 0 where
  pub empty : list_any has_words lines ≡ false
  pub kind : fault.kind ≡ Version
  pub last : fault.line ≡ max (length lines) 1

-- a text's fault
abbrev pub IsFaultIn : List Line → LineFault ConsKind → Type 0
IsFaultIn lines fault = IsFirstFault (fault_at lines) (length lines) 1 fault ⊎ IsMissing lines fault
