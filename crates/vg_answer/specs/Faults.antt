-- The faults of inputs, and the first of them.
use Rattle.std.specs.Prelude.{◌≡◌, ◌⊎◌, ℕ, ◌^◌, ◌≤◌, List, [], ◌∷◌, length}
use Rattle.vg_cons.specs.Lines.{lines_of as cons_lines}
use Rattle.vg_cons.specs.Faults.{IsFaultless, IsFaultIn}
use Rattle.design_read.specs.Designs.{IsSpef, IsLib, IsModule, Texts}
use Rattle.vg_answer.specs.declared.input.Input.{Input}
use Rattle.vg_answer.specs.declared.input.Input.TheVariants.{Spef, Lib, Verilog, Cons, Cert, Widths}
use Rattle.lib_cells.specs.declared.fault.LibKind.{LibKind}
use Rattle.lib_linear.specs.Faults.{IsFirstFault as IsFirstLibFault}
use Rattle.spef_file.specs.Files.{IsFileFault}
use Rattle.spef_file.specs.declared.fault.SpefKind.{SpefKind}
use Rattle.ver_file.specs.Modules.{IsFirstFault as IsFirstVerFault}
use Rattle.ver_syntax.specs.declared.fault.VerKind.{VerKind}
use Rattle.vg_cons.specs.declared.fault.ConsKind.{ConsKind}
use Rattle.vg_scan.specs.declared.fault.LineFault.{LineFault}
use Rattle.vg_report.specs.Faults.{cons_fault, lib_fault, spef_fault, ver_fault, width_fault}
use Rattle.vg_scan.specs.Lines.{lines_of}
use Rattle.vg_width.specs.Texts.{AreLinesOf, IsFaultIn as IsWidthFaultIn}
use Rattle.vg_width.specs.declared.fault.WidthKind.{WidthKind}
use Rattle.wire_widths.specs.declared.width.Width.{Width}

-- the text tells the fault of the file
pub record IsSpefFault (file text : List ℕ) : Type 0 where
  pub fault : LineFault SpefKind
  pub found : IsFileFault file fault
  pub text_is : text ≡ spef_fault fault

-- the library has a fault, and the text tells it
pub record IsLibFault (lib text : List ℕ) : Type 0 where
  pub fault : LineFault LibKind
  pub found : IsFirstLibFault lib fault
  pub text_is : text ≡ lib_fault fault

-- the netlist has a fault, and the text tells it
pub record IsVerFault (verilog text : List ℕ) : Type 0 where
  pub fault : LineFault VerKind
  pub found : IsFirstVerFault verilog fault
  pub text_is : text ≡ ver_fault fault

-- the constraints have a fault, and the text tells it
pub record IsConsFault (cons text : List ℕ) : Type 0 where
  pub fault : LineFault ConsKind
  pub found : IsFaultIn (cons_lines cons) fault
  pub text_is : text ≡ cons_fault fault

-- the widths have a fault, and the text tells it
pub record IsWidthsFault (widths text : List ℕ) : Type 0 where
  pub fault : LineFault WidthKind
  pub found : IsWidthFaultIn (lines_of widths) fault
  pub text_is : text ≡ width_fault fault

-- the text denotes these widths
abbrev pub DenotesWidths : List ℕ → List Width → Type 0
DenotesWidths text rows = AreLinesOf (lines_of text) rows

-- the files of a design
abbrev pub design_inputs : List Input
design_inputs = Spef ∷ Lib ∷ Verilog ∷ Cons ∷ []

-- an input is in its form; any text may be read as a certificate
abbrev pub IsInForm : Input → List ℕ → Type 0
IsInForm Spef text = IsSpef text
IsInForm Lib text = IsLib text
IsInForm Verilog text = IsModule text
IsInForm Cons text = IsFaultless (cons_lines text)
IsInForm Cert text = Unit {0}
IsInForm Widths text = (rows : List Width) × DenotesWidths text rows

-- it is not, and a line tells its fault
abbrev pub IsFault : Input → List ℕ → List ℕ → Type 0
IsFault Spef text line = IsSpefFault text line
IsFault Lib text line = IsLibFault text line
IsFault Verilog text line = IsVerFault text line
IsFault Cons text line = IsConsFault text line
IsFault Cert text line = ⊥
IsFault Widths text line = IsWidthsFault text line

-- a file of at most 2^28 bytes is read whole
abbrev pub IsShort : List ℕ → Type 0
IsShort text = length text ≤ 2 ^ 28

-- of a list the first input that is bad: those before it are good
abbrev pub IsFirst : (Input → Type 0) → (Input → Type 0) → List Input → Input → Type 0
IsFirst Good Bad [] input = ⊥
IsFirst Good Bad (head ∷ tail) input = ((head ≡ input) × Bad head) ⊎ (Good head × IsFirst Good Bad tail input)

-- the first fault of the texts
abbrev pub IsFirstFault : (Input → List ℕ) → List Input → List ℕ → Input → Type 0
IsFirstFault texts list line input = IsFirst (λ i. IsInForm i (texts i)) (λ i. IsFault i (texts i) line) list input

-- the texts of a design, by inputs
abbrev pub texts_by : Texts → Input → List ℕ
texts_by texts Spef = texts.spef
texts_by texts Lib = texts.lib
texts_by texts Verilog = texts.verilog
texts_by texts Cons = texts.cons
texts_by texts Cert = []
texts_by texts Widths = []

-- the first fault of the four texts
abbrev pub IsDesignFault : Texts → List ℕ → Input → Type 0
IsDesignFault texts line input = IsFirstFault (texts_by texts) design_inputs line input
