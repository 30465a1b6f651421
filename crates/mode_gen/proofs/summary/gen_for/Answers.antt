use Rattle.std.proofs.Common.{subst}
use Rattle.design_read.specs.Designs.{IsDesign, Texts}
use Rattle.vg_answer.specs.Answers.{AnswersBy, IsNoDesign, NoneTaken}
use Rattle.vg_answer.specs.Faults.{IsDesignFault}
use Rattle.vg_answer.specs.declared.answer.NoAnswer.TheVariants.{Memory}
use Rattle.vg_answer.proofs.AnswerLemmas.{handed, no_design}
use Rattle.mode_gen.specs.Answers.{IsGenAnswer, made_up}
use Rattle.mode_gen.proofs.SummaryLemmas.{gen_answered, gen_refused}
use Rattle.mode_gen.proofs.summary.gen_for.Goals as goal

pub returns-in_err-design : goal.returns-in_err-design
returns-in_err-design c =
    let size = c.args.size in
    let fault = c.in_err-design.field-0.0 in
    handed (AnswersBy (IsGenAnswer size) (IsDesignFault (made_up size)) NoneTaken) c.from_residual-in_err-design.result fault
    c.from_residual-in_err-design.ensures.1
    (no_design (IsGenAnswer size) NoneTaken (made_up size) fault
    (subst (λ (texts : Texts). IsNoDesign texts fault) c.in_ok-texts.ensures c.in_err-design.ensures.fault))

pub returns-in_err-sum_up-in-Ok : goal.returns-in_err-sum_up-in-Ok
returns-in_err-sum_up-in-Ok c =
    handed (AnswersBy (IsGenAnswer c.args.size) (IsDesignFault (made_up c.args.size)) NoneTaken) c.from_residual-in_err-sum_up-in-Ok.result Memory
    c.from_residual-in_err-sum_up-in-Ok.ensures.1 tt

pub returns-in-Ok : goal.returns-in-Ok
returns-in-Ok c =
    let d = c.in_ok-design.design in
    gen_answered c.args.size d (c.in-Ok.timed, c.in-Ok.net) c.in_ok-sum_up-in-Ok.field-0
    (subst (λ (texts : Texts). IsDesign texts d) c.in_ok-texts.ensures c.in_ok-design.ensures.design) c.in-Ok.ensures.net c.in_ok-sum_up-in-Ok.ensures

pub returns-in-Err-Net : goal.returns-in-Err-Net
returns-in-Err-Net c =
    let d = c.in_ok-design.design in
    let refused = rw c.in-Err-Net.field-0-is at c.in-Err-Net.ensures.refused in
    gen_refused c.args.size d c.in-Err-Net.refusal c.in_ok-refuse-in-Err-Net.field-0
    (subst (λ (texts : Texts). IsDesign texts d) c.in_ok-texts.ensures c.in_ok-design.ensures.design) refused c.in_ok-refuse-in-Err-Net.ensures
