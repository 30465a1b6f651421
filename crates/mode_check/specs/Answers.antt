-- What mode `check` answers.
use Rattle.std.specs.Prelude.{◌≡◌, ℕ, Bool, true, false, List, []}
use Rattle.vg_design.specs.Designs.{Design}
use Rattle.vg_design.specs.Nets.{IsPosedNet}
use Rattle.vg_design.specs.Refusals.{IsFirstRefusal}
use Rattle.design_read.specs.Designs.{Texts, IsDesign}
use Rattle.vg_verdict.specs.Laws.{names_in}
use Rattle.vg_verdict.specs.Judged.{IsJudged}
use Rattle.spef_wire.specs.declared.refusal.Refusal.{Refusal}
use Rattle.vg_design.specs.declared.net_problem.PosedNet.{PosedNet}
use Rattle.vg_report.specs.Reports.{refusal_line}
use Rattle.vg_answer.specs.Verdicts.{Verdict, bare_verdict}
use Rattle.vg_answer.specs.declared.kind.AnswerKind.{AnswerKind}
use Rattle.vg_answer.specs.declared.kind.AnswerKind.TheVariants.{Report, Refusal as Refused, Invalid}
use Rattle.vg_answer.specs.Answers.{Said}

-- the kind of what is said of a certificate
abbrev pub kind_judged : Bool → AnswerKind
kind_judged true = Report
kind_judged false = Invalid

-- a text is judged as a certificate of the net of this name; or the net is refused
pub data IsCheckSaid (d : Design) (name cert : List ℕ) (said : Verdict) : Type 0 where
  told_judgement : (net : PosedNet) → IsPosedNet d name net → (valid : Bool) (line : List ℕ)
      → IsJudged net.problem (names_in d name net) cert valid line
      → said ≡ bare_verdict (kind_judged valid) line → IsCheckSaid d name cert said
  told_refusal : (refusal : Refusal) → IsFirstRefusal d name refusal
      → said ≡ bare_verdict Refused (refusal_line name refusal) → IsCheckSaid d name cert said

-- the four texts are a design, and this is said of a certificate of the net that is asked for
pub record IsCheckAnswer (texts : Texts) (cert name : List ℕ) (kind : AnswerKind) (said : Said) : Type 0 where
  pub design : Design
  pub design_of : IsDesign texts design
  pub says : IsCheckSaid design name cert (bare_verdict kind said.text)
  pub no_files : said.files ≡ []
