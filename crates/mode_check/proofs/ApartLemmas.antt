-- Of the same texts mode `check` says one kind.
use Rattle.std.proofs.Common.{◌≡◌, ℕ, List, sym, ap, ◌∙◌, subst, Bool}
use Rattle.elmore.specs.declared.problem.Problem.{Problem}
use Rattle.vg_design.specs.Designs.{Design}
use Rattle.vg_design.specs.Nets.{IsPosedNet}
use Rattle.vg_design.specs.declared.net_problem.PosedNet.{PosedNet}
use Rattle.vg_design.specs.Parts.{cells_of}
use Rattle.vg_scan.specs.declared.name.NetNames.{NetNames}
use Rattle.vg_scan.specs.declared.name.NodeName.{NodeName}
use Rattle.vg_verdict.specs.Judged.{IsJudged}
use Rattle.vg_verdict.specs.Laws.{names_in}
use Rattle.vg_verdict.specs.Lines.{names_for}
use Rattle.vg_verdict.proofs.TextLemmas.{one_judgement}
use Rattle.design_read.specs.Designs.{Texts}
use Rattle.design_read.proofs.LawLemmas.{one_is}
use Rattle.vg_answer.specs.Answers.{Said}
use Rattle.mode_check.specs.Answers.{IsCheckSaid, kind_judged, IsCheckAnswer}
use Rattle.vg_answer.specs.Verdicts.{Verdict, bare_verdict}
use Rattle.vg_answer.specs.declared.kind.AnswerKind.{AnswerKind}
use Rattle.vg_answer.proofs.ApartLemmas.{not_refused, same_parts, one_posed, kind_is}

abbrev Bytes : Type 0
Bytes = List ℕ

pub one_names : (d : Design) (name : Bytes) (a b : PosedNet) → IsPosedNet d name a → IsPosedNet d name b → names_in d name a ≡ names_in d name b
one_names d name a b p q = ap (λ (nodes : List NodeName). names_for name (cells_of d.library.repeaters) nodes) (same_parts d name a b p q).names

-- what is judged of a certificate is one, whatever problem the net is read as
judged_alike : (d : Design) (name cert : Bytes) (net other : PosedNet) (one also : Bool) (line more : Bytes) → IsPosedNet d name net → IsPosedNet d name other
    → IsJudged net.problem (names_in d name net) cert one line → IsJudged other.problem (names_in d name other) cert also more → one ≡ also
judged_alike d name cert net other one also line more of of_other judged others =
    (one_judgement other.problem (names_in d name other) cert one also line more
    (subst (λ (names : NetNames). IsJudged other.problem names cert one line) (one_names d name net other of of_other)
    (subst (λ (p : Problem). IsJudged p (names_in d name net) cert one line) (one_posed d name net other of of_other) judged)) others).0

one_check_kind : (d : Design) (name cert : Bytes) (u v : Verdict) → IsCheckSaid d name cert u → IsCheckSaid d name cert v → u.kind ≡ v.kind
one_check_kind d name cert u v (IsCheckSaid.told_judgement net of one line judged is) (IsCheckSaid.told_judgement other of_other also more others is_other) =
    kind_is u _ is ∙ ap kind_judged (judged_alike d name cert net other one also line more of of_other judged others) ∙ sym (kind_is v _ is_other)
one_check_kind d name cert u v (IsCheckSaid.told_judgement net of one line judged is) (IsCheckSaid.told_refusal refusal refused is_other) =
    absurd (not_refused d name net refusal of refused)
one_check_kind d name cert u v (IsCheckSaid.told_refusal refusal refused is) (IsCheckSaid.told_judgement net of one line judged is_other) =
    absurd (not_refused d name net refusal of refused)
one_check_kind d name cert u v (IsCheckSaid.told_refusal refusal refused is) (IsCheckSaid.told_refusal other refused_other is_other) =
    kind_is u _ is ∙ sym (kind_is v _ is_other)

-- of the same texts one kind is said
pub one_kind : (texts : Texts) (cert name : Bytes) (a b : AnswerKind) (t u : Said) → IsCheckAnswer texts cert name a t → IsCheckAnswer texts cert name b u → a ≡ b
one_kind texts cert name a b t u p q =
    let same : q.design ≡ p.design = one_is texts q.design p.design q.design_of p.design_of in
    one_check_kind p.design name cert (bare_verdict a t.text) (bare_verdict b u.text) p.says
    (subst (λ (d : Design). IsCheckSaid d name cert (bare_verdict b u.text)) same q.says)
