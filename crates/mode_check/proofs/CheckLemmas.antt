-- What mode `check` says of a net.
use Rattle.std.proofs.Common.{◌≡◌, ℕ, Bool, List, [], ◌++◌, ap, ◌∙◌, subst, Result, Ok, Err}
use Rattle.std.specs.Prelude.{IfOk}
use Rattle.vg_design.specs.Designs.{Design}
use Rattle.vg_design.specs.Nets.{IsPosedNet}
use Rattle.vg_design.specs.Refusals.{IsFirstRefusal}
use Rattle.vg_design.specs.declared.net_problem.PosedNet.{PosedNet}
use Rattle.vg_num.specs.declared.memory.Memory.{Memory}
use Rattle.vg_report.specs.Reports.{refusal_line}
use Rattle.vg_scan.specs.declared.name.NetNames.{NetNames}
use Rattle.vg_verdict.specs.Judged.{IsJudged, Judges}
use Rattle.vg_verdict.specs.Laws.{names_in}
use Rattle.spef_wire.specs.declared.refusal.Refusal.{Refusal}
use Rattle.vg_answer.specs.Answers.{IsRefusedWith, IsAnswerWith}
use Rattle.mode_check.specs.Steps.{ChecksNet}
use Rattle.mode_check.specs.Answers.{IsCheckSaid, kind_judged}
use Rattle.vg_answer.specs.Verdicts.{bare_verdict}
use Rattle.vg_answer.specs.declared.answer.Answer.{Answer}
use Rattle.vg_answer.specs.declared.kind.AnswerKind.{AnswerKind}
use Rattle.vg_answer.proofs.ApartLemmas.{kind_is}

pub check_judged : (d : Design) (name cert : List ℕ) (net : PosedNet) (names : NetNames) (kind : AnswerKind) (valid : Bool) (old : List ℕ) (text : List ℕ) (answer : Answer) → IsPosedNet d name net
    → names ≡ names_in d name net → old ≡ [] → kind ≡ kind_judged valid → Judges net.problem names cert old text valid → IsAnswerWith kind text answer
    → ChecksNet d name cert answer
check_judged d name cert net names kind valid old text answer of same none kind_is judged with =
    let text_is : text ≡ judged.line = judged.appended ∙ ap (λ (before : List ℕ). before ++ judged.line) none in
    record {
      says = IsCheckSaid.told_judgement net of valid judged.line (subst (λ (some : NetNames). IsJudged net.problem some cert valid judged.line) same judged.judged)
          (λ i. bare_verdict ((with.kind_is ∙ kind_is) i) ((with.text_is ∙ text_is) i));
      no_files = with.no_files;
    }

pub check_refused : (d : Design) (name cert : List ℕ) (refusal : Refusal) (result : Result Answer Memory) → IsFirstRefusal d name refusal
    → IfOk result (IsRefusedWith (refusal_line name refusal)) → IfOk result (ChecksNet d name cert)
check_refused d name cert refusal (Ok answer) first with = record {
  says = IsCheckSaid.told_refusal refusal first (λ i. bare_verdict (with.kind_is i) (with.text_is i));
  no_files = with.no_files;
}
check_refused d name cert refusal (Err memory) first with = tt
