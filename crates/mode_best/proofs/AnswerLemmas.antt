-- What mode `best` answers.
use Rattle.std.proofs.Common.{◌≡◌, ℕ, List, sym, ap, ◌∙◌, subst, Err}
use Rattle.vg_design.specs.Designs.{Design}
use Rattle.design_read.specs.Designs.{Texts, IsDesign}
use Rattle.vg_answer.specs.Answers.{said_by, Said, AnswersBy}
use Rattle.mode_best.specs.Steps.{IsJudged, Judges, finished_with}
use Rattle.vg_place.specs.Placings.{IsFreeDesign, IsTaken, kept}
use Rattle.mode_best.specs.Answers.{Asked, IsBestAnswer}
use Rattle.vg_answer.specs.declared.answer.Answer.{Answer}
use Rattle.vg_answer.specs.declared.kind.AnswerKind.{AnswerKind}
use Rattle.mode_best.specs.declared.best.Finished.{Finished}
use Rattle.vg_answer.specs.declared.answer.NoAnswer.{NoAnswer}
use Rattle.vg_answer.specs.declared.answer.NoAnswer.TheVariants.{Faulty, Taken, Memory}
use Rattle.vg_answer.specs.Faults.{IsDesignFault}

-- what is judged of a design is an answer for four texts that are it
pub best_answered : (texts : Texts) (asked : Asked) (d : Design) (found : Finished) (spef : List ℕ) (answer : Answer) → IsFreeDesign texts asked.prefix d
    → IsJudged d asked found → spef ≡ texts.spef → answer.kind ≡ found.judged.kind
    → said_by answer ≡ finished_with found (record { verilog = texts.verilog; spef = spef }) → IsBestAnswer texts asked answer.kind (said_by answer)
best_answered texts asked d found spef answer free is same kind said =
    let read = kept texts in
    let says : IsBestAnswer texts asked found.judged.kind (finished_with found read)
    = record { design = d; design_of = free; best_of = is.says read free.design_of.netlist } in
    let all : said_by answer ≡ finished_with found read = said ∙ ap (λ (s : List ℕ). finished_with found (record { verilog = texts.verilog; spef = s })) same in
    subst (λ (k : AnswerKind). IsBestAnswer texts asked k (said_by answer)) (sym kind)
    (subst (λ (s : Said). IsBestAnswer texts asked found.judged.kind s) (sym all) says)

-- a name that is taken, or out of memory
pub not_judged : (texts : Texts) (asked : Asked) (d : Design) (fault : NoAnswer) → IsDesign texts d → Judges d asked (Err fault)
    → AnswersBy (IsBestAnswer texts asked) (IsDesignFault texts) (IsTaken texts asked.prefix) (Err fault)
not_judged texts asked d (Faulty input line) of is = absurd is
not_judged texts asked d (Taken name) of is = record { design = d; design_of = of; first = is }
not_judged texts asked d Memory of is = tt
