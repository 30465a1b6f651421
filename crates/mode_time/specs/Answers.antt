-- What mode `time` answers.
use Rattle.std.specs.Prelude.{◌≡◌, ℕ, ◌==◌, not, List, [], ◌∷◌, Option, Some, None, filter}
use Rattle.std.specs.List.{starts_with}
use Rattle.vg_design.specs.Designs.{Design, net_names}
use Rattle.vg_design.specs.declared.time.Timed.{Timed}
use Rattle.design_read.specs.Designs.{Texts, IsDesign}
use Rattle.vg_retime.specs.Retimings.{Retimes, IsFirstRefusal as IsFirstOnWay}
use Rattle.spef_wire.specs.declared.refusal.Refusal.{Refusal}
use Rattle.vg_report.specs.Reports.{slack_line, refusal_line}
use Rattle.vg_answer.specs.Verdicts.{Verdict, AreSaid, bare_verdict}
use Rattle.vg_answer.specs.declared.kind.AnswerKind.{AnswerKind}
use Rattle.vg_answer.specs.declared.kind.AnswerKind.TheVariants.{Report, Refusal as Refused}
use Rattle.vg_answer.specs.Answers.{Said}

-- where all are to be timed, those are passed over whose names begin with the prefix
abbrev pub nets_to_time : Design → List ℕ → Option (List ℕ) → List (List ℕ)
nets_to_time d prefix (Some name) = name ∷ []
nets_to_time d prefix None = filter (λ name. not (starts_with ◌==◌ name prefix)) (net_names d.spef)

-- the net re-times through the cells that were put in, and its slack is reported; or the walk from it is refused
pub data IsTimeSaid (d : Design) (prefix name : List ℕ) (said : Verdict) : Type 0 where
  told_slack : (timed : Timed) → Retimes 17 d prefix name timed → said ≡ bare_verdict Report (slack_line name timed)
      → IsTimeSaid d prefix name said
  told_stop : (refusal : Refusal) → IsFirstOnWay d prefix name refusal
      → said ≡ bare_verdict Refused (refusal_line name refusal)
      → IsTimeSaid d prefix name said

-- the four texts are a design, and this is said of the nets that are asked for, through cells whose names begin with
-- the prefix
pub record IsTimeAnswer (texts : Texts) (net : Option (List ℕ)) (prefix : List ℕ) (kind : AnswerKind)
    (said : Said) : Type 0 where
  pub design : Design
  pub design_of : IsDesign texts design
  pub nets : AreSaid (IsTimeSaid design prefix) (nets_to_time design prefix net) kind said.text
  pub no_files : said.files ≡ []
