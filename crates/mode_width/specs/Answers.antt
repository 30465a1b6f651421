-- What mode `width` answers.
use Rattle.std.specs.Prelude.{◌≡◌, ℕ, List, [], ◌∷◌}
use Rattle.vg_design.specs.Designs.{Design}
use Rattle.vg_design.specs.Nets.{IsPosedNet}
use Rattle.vg_design.specs.Parts.{cells_of}
use Rattle.vg_design.specs.Refusals.{IsFirstRefusal}
use Rattle.vg_design.specs.declared.net_problem.NetProblem.{NetProblem}
use Rattle.vg_design.specs.declared.net_problem.PosedNet.{PosedNet}
use Rattle.design_read.specs.Designs.{Texts, IsDesign}
use Rattle.spef_wire.specs.declared.refusal.Refusal.{Refusal}
use Rattle.spef_wire.specs.declared.refusal.Refusal.TheVariants.{TooLarge}
use Rattle.wire_widths.specs.Fits.{Fits}
use Rattle.wire_widths.specs.Widths.{IsWideBest}
use Rattle.wire_widths.specs.declared.width.Width.{Width}
use Rattle.vg_slack.specs.Choices.{HasNoWideGood}
use Rattle.vg_width.specs.declared.wide.WideBest.{WideBest}
use Rattle.vg_report.specs.Reports.{none_line, refusal_line}
use Rattle.vg_answer.specs.Answers.{Said}
use Rattle.vg_answer.specs.Faults.{DenotesWidths, IsFirstFault}
use Rattle.vg_answer.specs.Nets.{problem_in}
use Rattle.vg_answer.specs.Verdicts.{Verdict, bare_verdict}
use Rattle.vg_answer.specs.declared.input.Input.{Input}
use Rattle.vg_answer.specs.declared.input.Input.TheVariants.{Spef, Lib, Verilog, Cons, Cert, Widths}
use Rattle.vg_answer.specs.declared.kind.AnswerKind.{AnswerKind}
use Rattle.vg_answer.specs.declared.kind.AnswerKind.TheVariants.{Report, NoneGood, Refusal as Refused}
use Rattle.mode_width.specs.Lines.{width_report}

-- the net of this name is posed with this problem
abbrev pub IsPosedIn : Design → List ℕ → NetProblem → Type 0
IsPosedIn d name net = (posed : PosedNet) × IsPosedNet d name posed × (net ≡ problem_in posed)

-- A best choice of cells and of one width for each wire is reported; or no choice is good; or loads with these widths
-- may be too large, and the net is refused as one whose loads are too large without them; or the net is refused without
-- them.
pub data IsWidthSaid (d : Design) (widths : List Width) (name : List ℕ) (said : Verdict) : Type 0 where
  told_best : (net : PosedNet) → IsPosedNet d name net → Fits net.problem widths → (best : WideBest)
      → IsWideBest net.problem widths best.placement.cells best.chosen best.slack
      → said ≡ bare_verdict Report (width_report name (cells_of d.library.repeaters) (problem_in net) best)
      → IsWidthSaid d widths name said
  told_none : (net : PosedNet) → IsPosedNet d name net → Fits net.problem widths → HasNoWideGood net.problem widths
      → said ≡ bare_verdict NoneGood (none_line name) → IsWidthSaid d widths name said
  told_too_large : (net : PosedNet) → IsPosedNet d name net → (Fits net.problem widths → ⊥)
      → said ≡ bare_verdict Refused (refusal_line name TooLarge) → IsWidthSaid d widths name said
  told_refusal : (refusal : Refusal) → IsFirstRefusal d name refusal
      → said ≡ bare_verdict Refused (refusal_line name refusal) → IsWidthSaid d widths name said

-- the four texts are a design, the file has these widths, and this is said of the net that is asked for
pub record IsWidthAnswer (texts : Texts) (file name : List ℕ) (kind : AnswerKind) (said : Said) : Type 0 where
  pub design : Design
  pub design_of : IsDesign texts design
  pub widths : List Width
  pub widths_of : DenotesWidths file widths
  pub says : IsWidthSaid design widths name (bare_verdict kind said.text)
  pub no_files : said.files ≡ []

-- the inputs, in the order in which they are judged: the widths last
abbrev pub width_inputs : List Input
width_inputs = Spef ∷ Lib ∷ Verilog ∷ Cons ∷ Widths ∷ []

-- the texts of a design and of widths, by inputs
abbrev pub texts_with : Texts → List ℕ → Input → List ℕ
texts_with texts file Spef = texts.spef
texts_with texts file Lib = texts.lib
texts_with texts file Verilog = texts.verilog
texts_with texts file Cons = texts.cons
texts_with texts file Cert = []
texts_with texts file Widths = file

-- the first fault of the five texts
abbrev pub IsWidthFault : Texts → List ℕ → List ℕ → Input → Type 0
IsWidthFault texts file line input = IsFirstFault (texts_with texts file) width_inputs line input
