-- What is said of repairs of nets, one after another: for the functions between.
use Rattle.std.specs.Prelude.{◌≡◌, ℕ, ◌+◌, ◌<◌, ◌^◌, List, length, Some, None, Result, Ok, Err}
use Rattle.std.specs.List.{AllZip}
use Rattle.ver_file.specs.Modules.{Denotes}
use Rattle.vg_change.specs.Taken.{taken}
use Rattle.vg_design.specs.Designs.{Design}
use Rattle.vg_answer.specs.declared.answer.NoAnswer.{NoAnswer}
use Rattle.vg_answer.specs.declared.answer.NoAnswer.TheVariants.{Faulty, Taken, Memory}
use Rattle.vg_answer.specs.Verdicts.{Verdict}
use Rattle.vg_place.specs.Placings.{Files}
use Rattle.vg_place.specs.Steps.{AreJudged, FitIn, IsOneMore, said_with}
use Rattle.vg_place.specs.declared.judged.Judged.{Judged}
use Rattle.mode_repair.specs.Answers.{Asked, IsOutcome, IsRepairOf, IsRepairSaid}
use Rattle.mode_repair.specs.Outcomes.{AreTotals, Counts}
use Rattle.mode_repair.specs.declared.nets.Repairing.{Repairing}
use Rattle.mode_repair.specs.declared.outcome.Goal.{Goal}
use Rattle.mode_repair.specs.declared.outcome.Outcome.{Outcome}
use Rattle.mode_repair.specs.declared.totals.Totals.{Totals}

-- one net more can be counted
pub record HasRoom (totals : Totals) : Type 0 where
  pub outcomes : List Outcome
  pub are : AreTotals outcomes totals
  pub few : length outcomes + 1 < 2 ^ 64

-- one net more is repaired, and counted
pub record RepairsOne (d : Design) (goal : Goal) (name : List ℕ) (old new : Repairing) : Type 0 where
  pub verdict : Verdict
  pub says : IsRepairSaid d goal name verdict
  pub more : IsOneMore old.judging verdict new.judging
  pub outcome : Outcome
  pub comes : IsOutcome d goal name outcome
  pub counted : Counts old.totals outcome new.totals

-- these nets are repaired, with nothing before
pub record AreRepaired (d : Design) (goal : Goal) (prefix : List ℕ) (names : List (List ℕ))
    (all : Repairing) : Type 0 where
  pub judged : AreJudged (IsRepairSaid d goal) d prefix names all.judging
  pub outcomes : List Outcome
  pub each : AllZip (IsOutcome d goal) names outcomes
  pub totals : AreTotals outcomes all.totals

-- the nets that are asked for are repaired, whatever the texts of the design are
pub record IsJudged (d : Design) (asked : Asked) (found : Judged) : Type 0 where
  pub fit : FitIn d found.patches
  pub says : (read : Files) → Denotes read.verilog d.netlist
      → IsRepairOf read d asked found.kind (said_with found read)

-- they are, and no name of the design begins with the prefix; or one does, or it is out of memory
abbrev pub Repairs : Design → Asked → Result Judged NoAnswer → Type 0
Repairs d asked (Ok found) = (taken d asked.prefix ≡ None) × IsJudged d asked found
Repairs d asked (Err (Faulty input line)) = ⊥
Repairs d asked (Err (Taken name)) = taken d asked.prefix ≡ Some name
Repairs d asked (Err Memory) = Unit {0}
