-- What mode `repair` answers: the cheapest placements with slack enough, and the files in which their cells are put.
use Rattle.std.specs.Prelude.{◌≡◌, ℕ, ℤ, List, ◌++◌, Option}
use Rattle.std.specs.List.{AllZip, flat_map}
use Rattle.vg_design.specs.Designs.{Design}
use Rattle.vg_design.specs.Nets.{IsPosedNet}
use Rattle.vg_design.specs.Refusals.{IsFirstRefusal}
use Rattle.vg_design.specs.declared.net_problem.PosedNet.{PosedNet}
use Rattle.spef_wire.specs.declared.refusal.Refusal.{Refusal}
use Rattle.vg_slack.specs.declared.answer.Best.{Best}
use Rattle.vg_repair.specs.Repairs.{HasNoneWithin, IsEnough, IsRepair}
use Rattle.vg_report.specs.Reports.{none_line, refusal_line}
use Rattle.design_read.specs.Designs.{Texts}
use Rattle.vg_answer.specs.Answers.{Said}
use Rattle.vg_answer.specs.Nets.{nets_for}
use Rattle.vg_answer.specs.Verdicts.{AreSaid, Verdict, bare_verdict, put_in}
use Rattle.vg_answer.specs.declared.kind.AnswerKind.{AnswerKind}
use Rattle.vg_answer.specs.declared.kind.AnswerKind.TheVariants.{NoneGood as NoGood, Refusal as IsRefusal}
use Rattle.vg_place.specs.Placings.{AreFilesOf, Files, IsFreeDesign, changed_files, kept, placed_verdict}
use Rattle.mode_repair.specs.Outcomes.{AreTotals, kind_for, outcome_for, totals_line}
use Rattle.mode_repair.specs.declared.outcome.Goal.{Goal}
use Rattle.mode_repair.specs.declared.outcome.Outcome.{Outcome}
use Rattle.mode_repair.specs.declared.outcome.Outcome.TheVariants.{Met, Short, NoneGood, Refused}
use Rattle.mode_repair.specs.declared.totals.Totals.{Totals}

-- What is asked: one net by its name, or all nets of the parasitics; which slack is enough, and the cap; and what the
-- names of new cells and nets begin with.
pub record Asked : Type 0 where
  pub net : Option (List ℕ)
  pub goal : Goal
  pub prefix : List ℕ

-- a repair of the net is reported; or no good placement is within the cap; or the net is refused
pub data IsRepairSaid (d : Design) (goal : Goal) (name : List ℕ) (said : Verdict) : Type 0 where
  told_repair : (net : PosedNet) → IsPosedNet d name net
      → (best : Best) → IsRepair net.problem goal.cap goal.target best.placement.cells best.slack
      → said ≡ placed_verdict (kind_for (outcome_for goal.target best.slack)) d name net best
      → IsRepairSaid d goal name said
  told_none : (net : PosedNet) → IsPosedNet d name net → HasNoneWithin net.problem goal.cap
      → said ≡ bare_verdict NoGood (none_line name) → IsRepairSaid d goal name said
  told_refusal : (refusal : Refusal) → IsFirstRefusal d name refusal
      → said ≡ bare_verdict IsRefusal (refusal_line name refusal) → IsRepairSaid d goal name said

-- the net's repairs have this slack
pub record HasRepair (d : Design) (goal : Goal) (name : List ℕ) (slack : ℤ) : Type 0 where
  pub net : PosedNet
  pub net_of : IsPosedNet d name net
  pub cells : List (Option ℕ)
  pub repair : IsRepair net.problem goal.cap goal.target cells slack

-- what the net of this name comes to
abbrev pub IsOutcome : Design → Goal → List ℕ → Outcome → Type 0
IsOutcome d goal name (Met slack) = HasRepair d goal name slack × IsEnough goal.target slack
IsOutcome d goal name (Short slack) = HasRepair d goal name slack × (IsEnough goal.target slack → ⊥)
IsOutcome d goal name NoneGood = (net : PosedNet) × IsPosedNet d name net × HasNoneWithin net.problem goal.cap
IsOutcome d goal name Refused = (refusal : Refusal) × IsFirstRefusal d name refusal

-- this is said of the nets that are asked for, with a last line that counts what they came to, and the files have the
-- new cells of all of them
pub record IsRepairOf (read : Files) (design : Design) (asked : Asked) (kind : AnswerKind) (said : Said) : Type 0 where
  pub lines : List ℕ
  pub nets : AreSaid (IsRepairSaid design asked.goal) (nets_for design asked.net) kind lines
  pub outcomes : List Outcome
  pub each : AllZip (IsOutcome design asked.goal) (nets_for design asked.net) outcomes
  pub totals : Totals
  pub totals_of : AreTotals outcomes totals
  pub text_is : said.text ≡ lines ++ totals_line totals
  pub files : Files
  pub files_of : AreFilesOf read design asked.prefix (flat_map put_in nets.verdicts) files
  pub files_are : said.files ≡ changed_files files

-- so of four texts that are a design, none of whose names begins with the prefix
pub record IsRepairAnswer (texts : Texts) (asked : Asked) (kind : AnswerKind) (said : Said) : Type 0 where
  pub design : Design
  pub design_of : IsFreeDesign texts asked.prefix design
  pub repair_of : IsRepairOf (kept texts) design asked kind said
