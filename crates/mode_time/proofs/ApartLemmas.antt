-- Of the same texts mode `time` says one kind.
use Rattle.std.proofs.Common.{◌≡◌, ℕ, List, sym, ◌∙◌, subst, arith, Option}
use Rattle.spef_wire.specs.declared.refusal.Refusal.{Refusal}
use Rattle.vg_design.specs.Designs.{Design}
use Rattle.vg_design.specs.declared.time.Timed.{Timed}
use Rattle.vg_retime.specs.Retimings.{Retimes, IsFirstRefusal as IsFirstOnWay}
use Rattle.vg_retime.proofs.LawLemmas.{retimed_not_refused}
use Rattle.design_read.specs.Designs.{Texts}
use Rattle.design_read.proofs.LawLemmas.{one_is}
use Rattle.vg_answer.specs.Answers.{Said}
use Rattle.mode_time.specs.Answers.{IsTimeSaid, nets_to_time, IsTimeAnswer}
use Rattle.vg_answer.specs.Verdicts.{Verdict, AreSaid}
use Rattle.vg_answer.specs.declared.kind.AnswerKind.{AnswerKind}
use Rattle.vg_answer.proofs.VerdictLemmas.{one_kind_of_all}
use Rattle.vg_answer.proofs.ApartLemmas.{few_refusals, kind_is}

abbrev Bytes : Type 0
Bytes = List ℕ

-- a net that re-times is not refused
not_stopped : (d : Design) (prefix name : Bytes) (timed : Timed) (refusal : Refusal) → Retimes 17 d prefix name timed → IsFirstOnWay d prefix name refusal → ⊥
not_stopped d prefix name timed refusal is refused = omega (arith, few_refusals refusal, retimed_not_refused 17 d prefix name timed refusal is refused)

one_time_kind : (d : Design) (prefix name : Bytes) (u v : Verdict) → IsTimeSaid d prefix name u → IsTimeSaid d prefix name v → u.kind ≡ v.kind
one_time_kind d prefix name u v (IsTimeSaid.told_slack timed of is) (IsTimeSaid.told_slack other of_other is_other) = kind_is u _ is ∙ sym (kind_is v _ is_other)
one_time_kind d prefix name u v (IsTimeSaid.told_slack timed of is) (IsTimeSaid.told_stop refusal refused is_other) = absurd (not_stopped d prefix name timed refusal of refused)
one_time_kind d prefix name u v (IsTimeSaid.told_stop refusal refused is) (IsTimeSaid.told_slack timed of is_other) = absurd (not_stopped d prefix name timed refusal of refused)
one_time_kind d prefix name u v (IsTimeSaid.told_stop refusal refused is) (IsTimeSaid.told_stop other refused_other is_other) = kind_is u _ is ∙ sym (kind_is v _ is_other)

-- of the same texts one kind is said
pub one_kind : (texts : Texts) (net : Option Bytes) (prefix : Bytes) (a b : AnswerKind) (t u : Said) → IsTimeAnswer texts net prefix a t → IsTimeAnswer texts net prefix b u → a ≡ b
one_kind texts net prefix a b t u p q =
    let same : q.design ≡ p.design = one_is texts q.design p.design q.design_of p.design_of in
    let other = subst (λ (d : Design). AreSaid (IsTimeSaid d prefix) (nets_to_time d prefix net) b u.text) same q.nets in
    one_kind_of_all (IsTimeSaid p.design prefix) (one_time_kind p.design prefix) (nets_to_time p.design prefix net) a b t.text u.text p.nets other
