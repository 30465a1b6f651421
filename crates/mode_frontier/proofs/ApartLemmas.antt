-- Of the same texts mode `frontier` says one kind.
use Rattle.std.proofs.Common.{◌≡◌, ◌≢◌, ℕ, List, [], ◌∷◌, refl, sym, ◌∙◌, subst, arith, Option}
use Rattle.elmore.specs.Best.{IsGood}
use Rattle.elmore.specs.Legal.{IsWithin}
use Rattle.elmore.specs.Placements.{cost_of}
use Rattle.elmore.specs.declared.problem.Problem.{Problem}
use Rattle.vg_design.specs.Designs.{Design}
use Rattle.vg_design.specs.Nets.{IsPosedNet}
use Rattle.vg_design.specs.declared.net_problem.PosedNet.{PosedNet}
use Rattle.vg_front.specs.Points.{IsFrontierOf}
use Rattle.vg_front.specs.declared.root.Point.{Point}
use Rattle.design_read.specs.Designs.{Texts}
use Rattle.design_read.proofs.LawLemmas.{one_is}
use Rattle.vg_answer.specs.Answers.{Said}
use Rattle.mode_frontier.specs.Answers.{HasNoneWithin, IsFrontSaid, IsFrontAnswer}
use Rattle.vg_answer.specs.Nets.{nets_for}
use Rattle.vg_answer.specs.Verdicts.{Verdict, AreSaid}
use Rattle.vg_answer.specs.declared.kind.AnswerKind.{AnswerKind}
use Rattle.vg_answer.proofs.VerdictLemmas.{one_kind_of_all}
use Rattle.vg_answer.proofs.ApartLemmas.{not_refused, one_posed, kind_is}

abbrev Bytes : Type 0
Bytes = List ℕ

-- a point of a frontier is one of a good placement within the cap, whatever problem it is read as
point_not_none : (d : Design) (cap : Option ℕ) (name : Bytes) (net other : PosedNet) (points : List Point) → IsPosedNet d name net → IsPosedNet d name other
    → IsFrontierOf net.problem cap points → points ≢ [] → HasNoneWithin other.problem cap → ⊥
point_not_none d cap name net other [] of of_other front some none = some refl
point_not_none d cap name net other (x ∷ xs) of of_other front some none =
    let cells = x.placement.cells in
    let at = front.placed 0 x (omega arith) in
    let problems = one_posed d name net other of of_other in
    none cells (subst (λ (p : Problem). IsGood p cells) problems at.good)
    (subst (λ (p : Problem). IsWithin cap (cost_of p cells)) problems at.within)

one_front_kind : (d : Design) (cap : Option ℕ) (name : Bytes) (u v : Verdict) → IsFrontSaid d cap name u → IsFrontSaid d cap name v → u.kind ≡ v.kind
one_front_kind d cap name u v (IsFrontSaid.told_front net of points front some is) (IsFrontSaid.told_front other of_other more too any is_other) =
    kind_is u _ is ∙ sym (kind_is v _ is_other)
one_front_kind d cap name u v (IsFrontSaid.told_front net of points front some is) (IsFrontSaid.told_no_point other of_other none is_other) =
    absurd (point_not_none d cap name net other points of of_other front some none)
one_front_kind d cap name u v (IsFrontSaid.told_front net of points front some is) (IsFrontSaid.told_refusal refusal refused is_other) =
    absurd (not_refused d name net refusal of refused)
one_front_kind d cap name u v (IsFrontSaid.told_no_point net of none is) (IsFrontSaid.told_front other of_other points front some is_other) =
    absurd (point_not_none d cap name other net points of_other of front some none)
one_front_kind d cap name u v (IsFrontSaid.told_no_point net of none is) (IsFrontSaid.told_no_point other of_other none_other is_other) =
    kind_is u _ is ∙ sym (kind_is v _ is_other)
one_front_kind d cap name u v (IsFrontSaid.told_no_point net of none is) (IsFrontSaid.told_refusal refusal refused is_other) =
    absurd (not_refused d name net refusal of refused)
one_front_kind d cap name u v (IsFrontSaid.told_refusal refusal refused is) (IsFrontSaid.told_front net of points front some is_other) =
    absurd (not_refused d name net refusal of refused)
one_front_kind d cap name u v (IsFrontSaid.told_refusal refusal refused is) (IsFrontSaid.told_no_point net of none is_other) =
    absurd (not_refused d name net refusal of refused)
one_front_kind d cap name u v (IsFrontSaid.told_refusal refusal refused is) (IsFrontSaid.told_refusal other refused_other is_other) =
    kind_is u _ is ∙ sym (kind_is v _ is_other)

-- of the same texts one kind is said
pub one_kind : (texts : Texts) (net : Option Bytes) (cap : Option ℕ) (a b : AnswerKind) (t u : Said) → IsFrontAnswer texts net cap a t → IsFrontAnswer texts net cap b u → a ≡ b
one_kind texts net cap a b t u p q =
    let same : q.design ≡ p.design = one_is texts q.design p.design q.design_of p.design_of in
    let other = subst (λ (d : Design). AreSaid (IsFrontSaid d cap) (nets_for d net) b u.text) same q.nets in
    one_kind_of_all (IsFrontSaid p.design cap) (one_front_kind p.design cap) (nets_for p.design net) a b t.text u.text p.nets other
