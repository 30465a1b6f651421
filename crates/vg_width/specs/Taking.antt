-- What taking one more line says of it: for the functions between.
use Rattle.std.specs.Prelude.{◌≡◌, ◌++◌, true, List, [], ◌∷◌, length, Option, Some, None, Result, Ok, Err}
use Rattle.vg_scan.specs.Lines.{Line}
use Rattle.vg_width.specs.declared.fault.WidthKind.{WidthKind}
use Rattle.vg_width.specs.declared.fault.WidthKind.TheVariants.{Version, Word, Number, First, TooMany, Memory}
use Rattle.vg_width.specs.Lines.{is_heading, width_of}
use Rattle.vg_width.specs.Texts.{fault_after}
use Rattle.wire_widths.specs.declared.width.Width.{Width}

-- this fault, or out of memory
abbrev pub IsFaultOrMemory : Option WidthKind → WidthKind → Type 0
IsFaultOrMemory fault Memory = Unit {0}
IsFaultOrMemory fault Version = fault ≡ Some Version
IsFaultOrMemory fault Word = fault ≡ Some Word
IsFaultOrMemory fault Number = fault ≡ Some Number
IsFaultOrMemory fault First = fault ≡ Some First
IsFaultOrMemory fault TooMany = fault ≡ Some TooMany

-- a width is added that the line states, or the line has a fault
abbrev pub Takes : Result (Unit {0}) WidthKind → List Width → List Width → Line → Type 0
Takes (Ok _) old new line =
    (width : Width) × (width_of line ≡ Ok width) × (fault_after (length old) (Ok width) ≡ None)
    × (new ≡ old ++ width ∷ [])
Takes (Err kind) old new line = IsFaultOrMemory (fault_after (length old) (width_of line)) kind

-- the heading, and after it the other lines
pub record IsHeaded (lines others : List Line) : Type 0 where
  pub heading : Line
  pub is : is_heading heading ≡ true
  pub lines_are : lines ≡ heading ∷ others
