-- Of the same texts mode `best` says one kind.
use Rattle.std.proofs.Common.{◌≡◌, ℕ, List, sym, ◌∙◌, subst}
use Rattle.elmore.specs.Best.{IsGood}
use Rattle.elmore.specs.declared.problem.Problem.{Problem}
use Rattle.vg_design.specs.Designs.{Design}
use Rattle.vg_design.specs.Nets.{IsPosedNet}
use Rattle.vg_design.specs.declared.net_problem.PosedNet.{PosedNet}
use Rattle.vg_slack.specs.Bests.{HasNoGood, IsFound}
use Rattle.vg_slack.specs.declared.answer.Best.{Best as BestFound}
use Rattle.design_read.specs.Designs.{Texts}
use Rattle.design_read.proofs.LawLemmas.{one_is}
use Rattle.mode_best.specs.Answers.{Asked, IsBestSaid, IsBestAnswer}
use Rattle.vg_answer.specs.Answers.{Said}
use Rattle.vg_answer.specs.Nets.{nets_for}
use Rattle.vg_answer.specs.Verdicts.{Verdict, AreSaid}
use Rattle.vg_answer.specs.declared.kind.AnswerKind.{AnswerKind}
use Rattle.vg_answer.proofs.VerdictLemmas.{one_kind_of_all}
use Rattle.vg_answer.proofs.ApartLemmas.{not_refused, one_posed, kind_is}

abbrev Bytes : Type 0
Bytes = List ℕ

-- a net with a best placement has a good one, whatever problem it is read as
pub found_not_none : (d : Design) (name : Bytes) (net other : PosedNet) (best : BestFound) → IsPosedNet d name net → IsPosedNet d name other → IsFound net.problem best
    → HasNoGood other.problem → ⊥
found_not_none d name net other best of of_other found none =
    none best.placement.cells (subst (λ (p : Problem). IsGood p best.placement.cells) (one_posed d name net other of of_other) found.best.good)

one_best_kind : (d : Design) (name : Bytes) (u v : Verdict) → IsBestSaid d name u → IsBestSaid d name v → u.kind ≡ v.kind
one_best_kind d name u v (IsBestSaid.told_best net of best found is) (IsBestSaid.told_best other of_other best_other found_other is_other) =
    kind_is u _ is ∙ sym (kind_is v _ is_other)
one_best_kind d name u v (IsBestSaid.told_best net of best found is) (IsBestSaid.told_none other of_other none is_other) =
    absurd (found_not_none d name net other best of of_other found none)
one_best_kind d name u v (IsBestSaid.told_best net of best found is) (IsBestSaid.told_refusal refusal refused is_other) = absurd (not_refused d name net refusal of refused)
one_best_kind d name u v (IsBestSaid.told_none net of none is) (IsBestSaid.told_best other of_other best found is_other) =
    absurd (found_not_none d name other net best of_other of found none)
one_best_kind d name u v (IsBestSaid.told_none net of none is) (IsBestSaid.told_none other of_other none_other is_other) = kind_is u _ is ∙ sym (kind_is v _ is_other)
one_best_kind d name u v (IsBestSaid.told_none net of none is) (IsBestSaid.told_refusal refusal refused is_other) = absurd (not_refused d name net refusal of refused)
one_best_kind d name u v (IsBestSaid.told_refusal refusal refused is) (IsBestSaid.told_best net of best found is_other) = absurd (not_refused d name net refusal of refused)
one_best_kind d name u v (IsBestSaid.told_refusal refusal refused is) (IsBestSaid.told_none net of none is_other) = absurd (not_refused d name net refusal of refused)
one_best_kind d name u v (IsBestSaid.told_refusal refusal refused is) (IsBestSaid.told_refusal other refused_other is_other) = kind_is u _ is ∙ sym (kind_is v _ is_other)

-- of the same texts one kind is said
pub one_kind : (texts : Texts) (asked : Asked) (a b : AnswerKind) (t u : Said) → IsBestAnswer texts asked a t → IsBestAnswer texts asked b u → a ≡ b
one_kind texts asked a b t u p q =
    let same : q.design ≡ p.design = one_is texts q.design p.design q.design_of.design_of p.design_of.design_of in
    let other = subst (λ (d : Design). AreSaid (IsBestSaid d) (nets_for d asked.net) b u.text) same q.best_of.nets in
    one_kind_of_all (IsBestSaid p.design) (one_best_kind p.design) (nets_for p.design asked.net) a b t.text u.text p.best_of.nets other
