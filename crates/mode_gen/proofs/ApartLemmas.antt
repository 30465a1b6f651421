-- Of a made-up design one kind is said, and it has no fault.
use Rattle.std.proofs.Common.{◌≡◌, ℕ, List, refl, subst}
use Rattle.vg_design.specs.Designs.{Design}
use Rattle.vg_design.specs.Refusals.{IsFirstRefusal}
use Rattle.design_read.specs.Designs.{Texts}
use Rattle.design_read.proofs.LawLemmas.{one_is}
use Rattle.mode_gen.specs.Answers.{IsGenAnswer, made_up, IsMadeRefusal, IsSummary, made_net}
use Rattle.vg_answer.specs.Answers.{Said}
use Rattle.vg_answer.specs.declared.kind.AnswerKind.{AnswerKind}
use Rattle.vg_answer.specs.declared.kind.AnswerKind.TheVariants.{Report, NoneGood, Refusal as Refused, Invalid}
use Rattle.vg_answer.specs.declared.input.Input.{Input}
use Rattle.vg_answer.proofs.ApartLemmas.{not_refused, design_not_faulty}
use Rattle.vg_answer.specs.Faults.{IsDesignFault}

abbrev Bytes : Type 0
Bytes = List ℕ

-- nor is the net of a made-up design
summed_not_refused : (texts : Texts) (t u : Bytes) → IsSummary texts t → IsMadeRefusal texts u → ⊥
summed_not_refused texts t u p q =
    let same : q.design ≡ p.design = one_is texts q.design p.design q.design_of p.design_of in
    not_refused p.design made_net p.net q.refusal p.net_of (subst (λ (d : Design). IsFirstRefusal d made_net q.refusal) same q.refused)

-- of a size one kind is said
pub one_kind : (size : ℕ) (a b : AnswerKind) (t u : Said) → IsGenAnswer size a t → IsGenAnswer size b u → a ≡ b
one_kind size Report Report t u p q = refl
one_kind size Report NoneGood t u p q = absurd q
one_kind size Report Invalid t u p q = absurd q
one_kind size Report Refused t u (p, _) (q, _) = absurd (summed_not_refused (made_up size) t.text u.text p q)
one_kind size NoneGood b t u p q = absurd p
one_kind size Invalid b t u p q = absurd p
one_kind size Refused Report t u (p, _) (q, _) = absurd (summed_not_refused (made_up size) u.text t.text q p)
one_kind size Refused NoneGood t u p q = absurd q
one_kind size Refused Invalid t u p q = absurd q
one_kind size Refused Refused t u p q = refl

-- a made-up design of which something is said has no fault
pub not_faulty : (size : ℕ) (kind : AnswerKind) (t : Said) (line : Bytes) (input : Input) → IsGenAnswer size kind t → IsDesignFault (made_up size) line input → ⊥
not_faulty size Report t line input (d, _) f = design_not_faulty (made_up size) d.design line input d.design_of f
not_faulty size NoneGood t line input none f = none
not_faulty size Invalid t line input none f = none
not_faulty size Refused t line input (r, _) f = design_not_faulty (made_up size) r.design line input r.design_of f
