-- Of the same texts mode `sta` says one kind.
use Rattle.std.proofs.Common.{◌≡◌, ◌≢◌, ℕ, List, sym, ◌∙◌, subst}
use Rattle.vg_design.specs.Designs.{Design}
use Rattle.design_read.specs.Designs.{Texts}
use Rattle.design_read.proofs.LawLemmas.{one_is}
use Rattle.vg_sta.specs.Timings.{IsTimed, IsFault}
use Rattle.vg_sta.specs.declared.answer.Sta.{Sta}
use Rattle.vg_sta.specs.declared.answer.StaFault.{StaFault}
use Rattle.vg_sta.specs.declared.answer.StaFault.TheVariants.{Net, Cycle, NoPath, Memory}
use Rattle.vg_sta.proofs.LawLemmas.{timed_or_fault}
use Rattle.vg_answer.specs.Answers.{Said}
use Rattle.vg_answer.specs.declared.kind.AnswerKind.{AnswerKind}
use Rattle.vg_answer.specs.declared.kind.AnswerKind.TheVariants.{Report, Refusal as Refused}
use Rattle.mode_sta.specs.Answers.{IsStaAnswer, IsStaSaid}

-- a design is timed, or it has a fault
data IsKindOf (d : Design) (kind : AnswerKind) : Type 0 where
  timed : (found : Sta) → IsTimed d found → kind ≡ Report → IsKindOf d kind
  faulty : (fault : StaFault) → IsFault d fault → fault ≢ Memory → kind ≡ Refused → IsKindOf d kind

kind_of : (d : Design) (kind : AnswerKind) (text : List ℕ) → IsStaSaid d kind text → IsKindOf d kind
kind_of d kind text (IsStaSaid.told_slacks found of is text_is) = IsKindOf.timed found of is
kind_of d kind text (IsStaSaid.told_refusal name refusal first is text_is) = IsKindOf.faulty (Net name refusal) first (λ e. cc) is
kind_of d kind text (IsStaSaid.told_cycle name behind is text_is) = IsKindOf.faulty (Cycle name) behind (λ e. cc) is
kind_of d kind text (IsStaSaid.told_no_path none is text_is) = IsKindOf.faulty NoPath none (λ e. cc) is

one_said : (d : Design) (a b : AnswerKind) → IsKindOf d a → IsKindOf d b → a ≡ b
one_said d a b (IsKindOf.timed found of is) (IsKindOf.timed other of_other is_other) = is ∙ sym is_other
one_said d a b (IsKindOf.timed found of is) (IsKindOf.faulty fault of_fault some is_other) = absurd (some (timed_or_fault d found fault of of_fault))
one_said d a b (IsKindOf.faulty fault of some is) (IsKindOf.timed found of_found is_other) = absurd (some (timed_or_fault d found fault of_found of))
one_said d a b (IsKindOf.faulty fault of some is) (IsKindOf.faulty other of_other some_other is_other) = is ∙ sym is_other

-- of the same texts one kind is said
pub one_kind : (texts : Texts) (a b : AnswerKind) (t u : Said) → IsStaAnswer texts a t → IsStaAnswer texts b u → a ≡ b
one_kind texts a b t u p q =
    let same : q.design ≡ p.design = one_is texts q.design p.design q.design_of p.design_of in
    let other = subst (λ (d : Design). IsStaSaid d b u.text) same q.is_said in
    one_said p.design a b (kind_of p.design a t.text p.is_said) (kind_of p.design b u.text other)
