-- What is said of repairs of nets, one after another.
use Rattle.std.proofs.Common.{◌≡◌, ℕ, ◌+◌, ◌<◌, ◌^◌, ℤ, Bool, true, false, List, [], ◌∷◌, ◌++◌, length, refl, sym, ap, ◌∙◌, subst, arith, Option}
use Rattle.std.specs.Prelude.{if◌then◌else◌, IfOk, Result, Ok, Err}
use Rattle.std.specs.Int.Signed.{le_z}
use Rattle.std.specs.List.{AllZip}
use Rattle.elmore.specs.Best.{IsGood}
use Rattle.elmore.specs.declared.problem.Problem.{Problem}
use Rattle.spef_wire.specs.declared.refusal.Refusal.{Refusal}
use Rattle.vg_design.specs.Designs.{Design}
use Rattle.vg_design.specs.Nets.{IsPosedNet}
use Rattle.vg_design.specs.Refusals.{IsFirstRefusal}
use Rattle.vg_design.specs.declared.net_problem.PosedNet.{PosedNet}
use Rattle.vg_slack.specs.declared.answer.Best.{Best}
use Rattle.vg_repair.specs.Repairs.{HasNoneWithin, IsRepair}
use Rattle.vg_repair.proofs.RepairLemmas.{repair_good}
use Rattle.vg_change.specs.Changes.{nothing}
use Rattle.vg_num.specs.declared.memory.Memory.{Memory}
use Rattle.vg_report.specs.Reports.{none_line, refusal_line}
use Rattle.vg_answer.specs.Verdicts.{Verdict, bare_verdict}
use Rattle.vg_answer.specs.declared.kind.AnswerKind.{AnswerKind}
use Rattle.vg_answer.specs.declared.kind.AnswerKind.TheVariants.{NoneGood as NoGood, Refusal as IsRefusal}
use Rattle.vg_place.specs.Placings.{IsPutSaid, placed_verdict}
use Rattle.vg_place.specs.Steps.{IsBegun, IsOneMore}
use Rattle.vg_place.specs.declared.judging.Judging.{Judging}
use Rattle.vg_place.proofs.JudgedLemmas.{judged_more, nothing_judged}
use Rattle.mode_repair.specs.Answers.{HasRepair, IsOutcome, IsRepairSaid}
use Rattle.mode_repair.specs.Outcomes.{AreTotals, Counts, kind_for, outcome_for}
use Rattle.mode_repair.specs.Steps.{AreRepaired, HasRoom, RepairsOne}
use Rattle.mode_repair.specs.declared.nets.Repairing.{Repairing}
use Rattle.mode_repair.specs.declared.outcome.Goal.{Goal}
use Rattle.mode_repair.specs.declared.outcome.Outcome.{Outcome}
use Rattle.mode_repair.specs.declared.outcome.Outcome.TheVariants.{Met, Short, NoneGood, Refused}
use Rattle.mode_repair.specs.declared.totals.Totals.{Totals}

-- ---- one net

pub repair_is_good : (p : Problem) (cap : Option ℕ) (target : ℤ) (cells : List (Option ℕ)) (x : ℤ) → IsRepair p cap target cells x → IsGood p cells
repair_is_good p cap target cells x is = (repair_good p cap target cells x is).good.good

-- a net with a repair comes to what its slack says
comes_to : (d : Design) (goal : Goal) (name : List ℕ) (slack : ℤ) → HasRepair d goal name slack → IsOutcome d goal name (outcome_for goal.target slack)
comes_to d goal name slack has = by_test (le_z goal.target slack) refl
  where
    by_test : (b : Bool) → le_z goal.target slack ≡ b → IsOutcome d goal name (if b then Met slack else Short slack)
    by_test true e = (has, grind (arith, e))
    by_test false e = (has, λ enough. grind (arith, e, enough))

-- what is said puts a good placement or nothing
pub repair_put : (d : Design) (goal : Goal) (name : List ℕ) (v : Verdict) → IsRepairSaid d goal name v → IsPutSaid d name v
repair_put d goal name v (IsRepairSaid.told_repair net of best is e) =
    IsPutSaid.puts_cells net of best.placement.cells (repair_is_good net.problem goal.cap goal.target best.placement.cells best.slack is) (ap (λ (u : Verdict). u.put) e)
repair_put d goal name v (IsRepairSaid.told_none net of none e) = IsPutSaid.puts_nothing (ap (λ (u : Verdict). u.put) e)
repair_put d goal name v (IsRepairSaid.told_refusal refusal first e) = IsPutSaid.puts_nothing (ap (λ (u : Verdict). u.put) e)

module _ (d : Design) (goal : Goal) (name : List ℕ) (old : Repairing) (judging : Judging) (totals : Totals) where
  pub repaired_one : (net : PosedNet) (best : Best) (outcome : Outcome) (kind : AnswerKind) → IsPosedNet d name net
      → IsRepair net.problem goal.cap goal.target best.placement.cells best.slack → outcome ≡ outcome_for goal.target best.slack → kind ≡ kind_for outcome
      → IsOneMore old.judging (placed_verdict kind d name net best) judging → Counts old.totals outcome totals
      → RepairsOne d goal name old (record { judging = judging; totals = totals })
  repaired_one net best outcome kind of is same told more counted = record {
    verdict = placed_verdict kind d name net best;
    says = IsRepairSaid.told_repair net of best is (ap (λ (k : AnswerKind). placed_verdict k d name net best) (told ∙ ap kind_for same));
    more = more;
    outcome = outcome;
    comes =
        subst (IsOutcome d goal name) (sym same)
        (comes_to d goal name best.slack (record { net = net; net_of = of; cells = best.placement.cells; repair = is }));
    counted = counted;
  }

  pub none_one : (net : PosedNet) → IsPosedNet d name net → HasNoneWithin net.problem goal.cap
      → IsOneMore old.judging (bare_verdict NoGood (none_line name)) judging → Counts old.totals NoneGood totals
      → RepairsOne d goal name old (record { judging = judging; totals = totals })
  none_one net of none more counted = record {
    verdict = bare_verdict NoGood (none_line name);
    says = IsRepairSaid.told_none net of none refl;
    more = more;
    outcome = NoneGood;
    comes = (net, of, none);
    counted = counted;
  }

  pub refused_one : (refusal : Refusal) → IsFirstRefusal d name refusal → IsOneMore old.judging (bare_verdict IsRefusal (refusal_line name refusal)) judging
      → Counts old.totals Refused totals → RepairsOne d goal name old (record { judging = judging; totals = totals })
  refused_one refusal first more counted = record {
    verdict = bare_verdict IsRefusal (refusal_line name refusal);
    says = IsRepairSaid.told_refusal refusal first refl;
    more = more;
    outcome = Refused;
    comes = (refusal, first);
    counted = counted;
  }

-- ---- net after net

zip_more : {A B : Type 0} (R : A → B → Type 0) (xs : List A) (ys : List B) (x : A) (y : B) → AllZip R xs ys → R x y → AllZip R (xs ++ x ∷ []) (ys ++ y ∷ [])
zip_more R [] [] x y all here = (here, tt)
zip_more R [] (b ∷ ys) x y all here = absurd all
zip_more R (a ∷ xs) [] x y all here = absurd all
zip_more R (a ∷ xs) (b ∷ ys) x y all here = (all.0, zip_more R xs ys x y all.1 here)

zip_long : {A B : Type 0} (R : A → B → Type 0) (xs : List A) (ys : List B) → AllZip R xs ys → length ys ≡ length xs
zip_long R [] [] all = refl
zip_long R [] (b ∷ ys) all = absurd all
zip_long R (a ∷ xs) [] all = absurd all
zip_long R (a ∷ xs) (b ∷ ys) all = (let e = zip_long R xs ys all.1 in omega (arith, e))

module _ (d : Design) (goal : Goal) where
  pub nothing_repaired : (judging : Judging) (totals : Totals) → IsBegun (nothing d judging.changes.prefix) judging → AreTotals [] totals
      → AreRepaired d goal judging.changes.prefix [] (record { judging = judging; totals = totals })
  nothing_repaired judging totals begun are = record {
    judged = nothing_judged (IsRepairSaid d goal) d (nothing d judging.changes.prefix) judging refl begun;
    outcomes = [];
    each = tt;
    totals = are;
  }

  module _ (prefix : List ℕ) (names : List (List ℕ)) (old : Repairing) (are : AreRepaired d goal prefix names old) where
    pub repaired_more : (new : Repairing) (name : List ℕ) → RepairsOne d goal name old new → AreRepaired d goal prefix (names ++ name ∷ []) new
    repaired_more new name one = record {
      judged = judged_more (IsRepairSaid d goal) d prefix names old.judging new.judging name one.verdict are.judged one.says one.more;
      outcomes = are.outcomes ++ one.outcome ∷ [];
      each = zip_more (IsOutcome d goal) names are.outcomes name one.outcome are.each one.comes;
      totals = one.counted are.outcomes are.totals;
    }

    -- one net more can be counted
    pub has_room : length names + 1 < 2 ^ 64 → HasRoom old.totals
    has_room few = record {
      outcomes = are.outcomes;
      are = are.totals;
      few = subst (λ (n : ℕ). n + 1 < 2 ^ 64) (sym (zip_long (IsOutcome d goal) names are.outcomes are.each)) few;
    }

  -- the one net that is asked for, or out of memory
  pub asked_repaired : (name : List ℕ) (judging : Judging) (totals : Totals) (result : Result Repairing Memory) → IsBegun (nothing d judging.changes.prefix) judging
      → AreTotals [] totals → IfOk result (RepairsOne d goal name (record { judging = judging; totals = totals }))
      → IfOk result (AreRepaired d goal judging.changes.prefix (name ∷ []))
  asked_repaired name judging totals (Ok all) begun are one =
      repaired_more judging.changes.prefix [] (record { judging = judging; totals = totals }) (nothing_repaired judging totals begun are) all name one
  asked_repaired name judging totals (Err memory) begun are one = tt

pub empty_room : (totals : Totals) → AreTotals [] totals → HasRoom totals
empty_room totals are = record { outcomes = []; are = are; few = omega arith }
