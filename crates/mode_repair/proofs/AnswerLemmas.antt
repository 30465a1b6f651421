-- What mode `repair` answers.
use Rattle.std.proofs.Common.{refl, ◌≡◌, ℕ, List, ◌++◌, sym, ap, ◌∙◌, subst, Err}
use Rattle.std.specs.List.{flat_map}
use Rattle.vg_design.specs.Designs.{Design}
use Rattle.design_read.specs.Designs.{Texts, IsDesign}
use Rattle.vg_answer.specs.Answers.{said_by, Said, AnswersBy}
use Rattle.vg_answer.specs.Faults.{IsDesignFault}
use Rattle.vg_answer.specs.Nets.{nets_for}
use Rattle.vg_answer.specs.Verdicts.{put_in}
use Rattle.vg_answer.specs.declared.answer.Answer.{Answer}
use Rattle.vg_answer.specs.declared.answer.NoAnswer.{NoAnswer}
use Rattle.vg_answer.specs.declared.answer.NoAnswer.TheVariants.{Faulty, Taken, Memory}
use Rattle.vg_answer.specs.declared.kind.AnswerKind.{AnswerKind}
use Rattle.vg_change.specs.declared.changes.Patches.{Patches}
use Rattle.vg_place.specs.Placings.{IsFreeDesign, IsTaken, kept}
use Rattle.vg_place.specs.Steps.{HaveChange, IsFinished, files_with, said_with}
use Rattle.vg_place.specs.declared.judged.Judged.{Judged}
use Rattle.vg_place.proofs.FileLemmas.{patches_are}
use Rattle.mode_repair.specs.Answers.{Asked, IsRepairAnswer}
use Rattle.mode_repair.specs.Outcomes.{totals_line}
use Rattle.mode_repair.specs.Steps.{AreRepaired, IsJudged, Repairs}
use Rattle.mode_repair.specs.declared.nets.Repairing.{Repairing}

-- the nets that are asked for are repaired, with a last line, and with what is to be replaced
pub finished : (d : Design) (asked : Asked) (all : Repairing) (found told : Judged) → AreRepaired d asked.goal asked.prefix (nets_for d asked.net) all
    → IsFinished all.judging found → told.kind ≡ found.kind → told.text.items ≡ found.text.items ++ totals_line all.totals → told.patches ≡ found.patches
    → IsJudged d asked told
finished d asked all found told are is same_kind more same_patches =
    let nets = are.judged.nets in
    let patches = patches_are d asked.prefix (flat_map put_in nets.verdicts) all.judging.changes told.patches all.judging.changed are.judged.put (subst (λ (made : Patches). HaveChange all.judging.changes all.judging.changed made) (sym same_patches) is.patches) in
    record {
      fit = patches.fit;
      says = λ read denotes. record {
        lines = found.text.items;
        nets = record {
          verdicts = nets.verdicts;
          each = nets.each;
          kind_is = same_kind ∙ is.kind ∙ nets.kind_is;
          text_is = is.text ∙ nets.text_is;
        };
        outcomes = are.outcomes;
        each = are.each;
        totals = all.totals;
        totals_of = are.totals;
        text_is = more;
        files = files_with told.patches read;
        files_of = patches.make read denotes;
        files_are = refl;
      };
    }

-- what is repaired of a design is an answer for four texts that are it
pub repair_answered : (texts : Texts) (asked : Asked) (d : Design) (found : Judged) (spef : List ℕ) (answer : Answer) → IsFreeDesign texts asked.prefix d
    → IsJudged d asked found → spef ≡ texts.spef → answer.kind ≡ found.kind
    → said_by answer ≡ said_with found (record { verilog = texts.verilog; spef = spef }) → IsRepairAnswer texts asked answer.kind (said_by answer)
repair_answered texts asked d found spef answer free is same kind said =
    let read = kept texts in
    let says : IsRepairAnswer texts asked found.kind (said_with found read)
    = record { design = d; design_of = free; repair_of = is.says read free.design_of.netlist } in
    let all : said_by answer ≡ said_with found read = said ∙ ap (λ (s : List ℕ). said_with found (record { verilog = texts.verilog; spef = s })) same in
    subst (λ (k : AnswerKind). IsRepairAnswer texts asked k (said_by answer)) (sym kind)
    (subst (λ (s : Said). IsRepairAnswer texts asked found.kind s) (sym all) says)

-- a name that is taken, or out of memory
pub not_repaired : (texts : Texts) (asked : Asked) (d : Design) (fault : NoAnswer) → IsDesign texts d → Repairs d asked (Err fault)
    → AnswersBy (IsRepairAnswer texts asked) (IsDesignFault texts) (IsTaken texts asked.prefix) (Err fault)
not_repaired texts asked d (Faulty input line) of is = absurd is
not_repaired texts asked d (Taken name) of is = record { design = d; design_of = of; first = is }
not_repaired texts asked d Memory of is = tt
