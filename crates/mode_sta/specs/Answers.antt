-- What mode `sta` answers.
use Rattle.std.specs.Prelude.{◌≡◌, ℕ, List, []}
use Rattle.spef_wire.specs.declared.refusal.Refusal.{Refusal}
use Rattle.vg_design.specs.Designs.{Design, net_names}
use Rattle.design_read.specs.Designs.{Texts, IsDesign}
use Rattle.vg_report.specs.Reports.{refusal_line}
use Rattle.vg_sta.specs.Timings.{IsTimed, IsFirstRefused, IsFirstBehindCycle}
use Rattle.vg_sta.specs.declared.answer.Sta.{Sta}
use Rattle.vg_answer.specs.Answers.{Said}
use Rattle.vg_answer.specs.declared.kind.AnswerKind.{AnswerKind}
use Rattle.vg_answer.specs.declared.kind.AnswerKind.TheVariants.{Report, Refusal as Refused}
use Rattle.mode_sta.specs.Lines.{sta_report, cycle_line, no_path_line}

-- The design is timed, and its slacks are reported; or one line names the first refused net, the first net on a cycle
-- of nets or behind one, or tells that there is no net.
pub data IsStaSaid (d : Design) (kind : AnswerKind) (text : List ℕ) : Type 0 where
  told_slacks : (found : Sta) → IsTimed d found → kind ≡ Report → text ≡ sta_report found → IsStaSaid d kind text
  told_refusal : (name : List ℕ) (refusal : Refusal) → IsFirstRefused d name refusal → kind ≡ Refused
      → text ≡ refusal_line name refusal → IsStaSaid d kind text
  told_cycle : (name : List ℕ) → IsFirstBehindCycle d name → kind ≡ Refused → text ≡ cycle_line name
      → IsStaSaid d kind text
  told_no_path : net_names d.spef ≡ [] → kind ≡ Refused → text ≡ no_path_line → IsStaSaid d kind text

-- the four texts are a design, and this is said of it
pub record IsStaAnswer (texts : Texts) (kind : AnswerKind) (said : Said) : Type 0 where
  pub design : Design
  pub design_of : IsDesign texts design
  pub is_said : IsStaSaid design kind said.text
  pub no_files : said.files ≡ []
