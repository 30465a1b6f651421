-- Of the same texts mode `repair` says one kind.
use Rattle.std.proofs.Common.{◌≡◌, ℕ, ℤ, List, sym, ap, ◌∙◌, subst}
use Rattle.elmore.specs.declared.problem.Problem.{Problem}
use Rattle.vg_design.specs.Designs.{Design}
use Rattle.vg_design.specs.Nets.{IsPosedNet}
use Rattle.vg_design.specs.declared.net_problem.PosedNet.{PosedNet}
use Rattle.vg_slack.specs.declared.answer.Best.{Best}
use Rattle.vg_repair.specs.Repairs.{HasNoneWithin, IsRepair}
use Rattle.vg_repair.proofs.RepairLemmas.{one_repair, repair_good}
use Rattle.design_read.specs.Designs.{Texts}
use Rattle.design_read.proofs.LawLemmas.{one_is}
use Rattle.vg_answer.specs.Answers.{Said}
use Rattle.vg_answer.specs.Nets.{nets_for}
use Rattle.vg_answer.specs.Verdicts.{Verdict, AreSaid}
use Rattle.vg_answer.specs.declared.kind.AnswerKind.{AnswerKind}
use Rattle.vg_answer.proofs.VerdictLemmas.{one_kind_of_all}
use Rattle.vg_answer.proofs.ApartLemmas.{not_refused, one_posed, kind_is}
use Rattle.mode_repair.specs.Answers.{Asked, IsRepairAnswer, IsRepairSaid}
use Rattle.mode_repair.specs.Outcomes.{kind_for, outcome_for}
use Rattle.mode_repair.specs.declared.outcome.Goal.{Goal}

module _ (d : Design) (goal : Goal) (name : List ℕ) where
  abbrev Repairs : PosedNet → Best → Type 0
  Repairs net best = IsRepair net.problem goal.cap goal.target best.placement.cells best.slack

  -- all repairs of a net have one slack, whatever problem it is read as
  same_slack : (net other : PosedNet) (best best_other : Best) → IsPosedNet d name net → IsPosedNet d name other → Repairs net best → Repairs other best_other
      → best.slack ≡ best_other.slack
  same_slack net other best best_other of of_other is is_other =
      let here : Repairs net best_other =
      subst (λ (p : Problem). IsRepair p goal.cap goal.target best_other.placement.cells best_other.slack) (one_posed d name other net of_other of) is_other in
      (one_repair net.problem goal.cap goal.target best.placement.cells best_other.placement.cells best.slack best_other.slack is here).1

  -- a net with a repair has a good placement within the cap
  repair_not_none : (net other : PosedNet) (best : Best) → IsPosedNet d name net → IsPosedNet d name other → Repairs net best
      → HasNoneWithin other.problem goal.cap → ⊥
  repair_not_none net other best of of_other is none =
      let here : Repairs other best =
      subst (λ (p : Problem). IsRepair p goal.cap goal.target best.placement.cells best.slack) (one_posed d name net other of of_other) is in
      let good = repair_good other.problem goal.cap goal.target best.placement.cells best.slack here in
      none best.placement.cells good.good.good good.within

  one_repair_kind : (u v : Verdict) → IsRepairSaid d goal name u → IsRepairSaid d goal name v → u.kind ≡ v.kind
  one_repair_kind u v (IsRepairSaid.told_repair net of best repair is) (IsRepairSaid.told_repair other of_other best_other repair_other is_other) =
      kind_is u _ is
      ∙ (ap (λ (x : ℤ). kind_for (outcome_for goal.target x)) (same_slack net other best best_other of of_other repair repair_other)
      ∙ sym (kind_is v _ is_other))
  one_repair_kind u v (IsRepairSaid.told_repair net of best repair is) (IsRepairSaid.told_none other of_other none is_other) =
      absurd (repair_not_none net other best of of_other repair none)
  one_repair_kind u v (IsRepairSaid.told_repair net of best repair is) (IsRepairSaid.told_refusal refusal refused is_other) =
      absurd (not_refused d name net refusal of refused)
  one_repair_kind u v (IsRepairSaid.told_none net of none is) (IsRepairSaid.told_repair other of_other best repair is_other) =
      absurd (repair_not_none other net best of_other of repair none)
  one_repair_kind u v (IsRepairSaid.told_none net of none is) (IsRepairSaid.told_none other of_other none_other is_other) = kind_is u _ is ∙ sym (kind_is v _ is_other)
  one_repair_kind u v (IsRepairSaid.told_none net of none is) (IsRepairSaid.told_refusal refusal refused is_other) =
      absurd (not_refused d name net refusal of refused)
  one_repair_kind u v (IsRepairSaid.told_refusal refusal refused is) (IsRepairSaid.told_repair net of best repair is_other) =
      absurd (not_refused d name net refusal of refused)
  one_repair_kind u v (IsRepairSaid.told_refusal refusal refused is) (IsRepairSaid.told_none net of none is_other) =
      absurd (not_refused d name net refusal of refused)
  one_repair_kind u v (IsRepairSaid.told_refusal refusal refused is) (IsRepairSaid.told_refusal other refused_other is_other) =
      kind_is u _ is ∙ sym (kind_is v _ is_other)

-- of the same texts one kind is said
pub one_kind : (texts : Texts) (asked : Asked) (a b : AnswerKind) (t u : Said) → IsRepairAnswer texts asked a t → IsRepairAnswer texts asked b u → a ≡ b
one_kind texts asked a b t u p q =
    let same : q.design ≡ p.design = one_is texts q.design p.design q.design_of.design_of p.design_of.design_of in
    let other = subst (λ (d : Design). AreSaid (IsRepairSaid d asked.goal) (nets_for d asked.net) b q.repair_of.lines) same q.repair_of.nets in
    one_kind_of_all (IsRepairSaid p.design asked.goal) (one_repair_kind p.design asked.goal) (nets_for p.design asked.net) a b p.repair_of.lines q.repair_of.lines
    p.repair_of.nets other
