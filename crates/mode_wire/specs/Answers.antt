-- What mode `wire` answers.
use Rattle.std.specs.Prelude.{◌≡◌, ℕ, List}
use Rattle.spef_wire.specs.Nets.{IsRefusalOf}
use Rattle.spef_wire.specs.Wires.{IsWireOf}
use Rattle.spef_wire.specs.declared.refusal.Refusal.{Refusal}
use Rattle.spef_wire.specs.declared.wire.WireNet.{WireNet}
use Rattle.vg_report.specs.Reports.{wire_report, refusal_line}
use Rattle.vg_answer.specs.declared.kind.AnswerKind.{AnswerKind}
use Rattle.vg_answer.specs.declared.kind.AnswerKind.TheVariants.{Report, Refusal as Refused}
use Rattle.vg_answer.specs.Answers.{Said, IsText}
use Rattle.vg_answer.specs.Faults.{IsSpefFault}
use Rattle.vg_answer.specs.declared.input.Input.{Input}
use Rattle.vg_answer.specs.declared.input.Input.TheVariants.{Spef}

-- the net of this name has wire delays, and the text is their report
pub record IsDelays (file name text : List ℕ) : Type 0 where
  pub wire : WireNet
  pub wire_of : IsWireOf file name wire
  pub text_is : text ≡ wire_report name wire

-- it is refused, and the text says why
pub record IsRefusal (file name text : List ℕ) : Type 0 where
  pub refusal : Refusal
  pub refused : IsRefusalOf file name refusal
  pub text_is : text ≡ refusal_line name refusal

-- the net of this name of a file has wire delays, which are reported, or it is refused
abbrev pub IsWireAnswer : List ℕ → List ℕ → AnswerKind → Said → Type 0
IsWireAnswer file name Report said = IsText (IsDelays file name) said
IsWireAnswer file name Refused said = IsText (IsRefusal file name) said
IsWireAnswer file name kind said = ⊥

-- the fault of the file
abbrev pub IsWireFault : List ℕ → List ℕ → Input → Type 0
IsWireFault file line input = (input ≡ Spef) × IsSpefFault file line
