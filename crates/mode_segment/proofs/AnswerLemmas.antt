-- The answer, from what is said of the nets.
use Rattle.std.proofs.Common.{◌≡◌, ℕ, List, [], ◌∷◌, length, refl, sym, ap, ◌∙◌, subst, Option}
use Rattle.change_spef_laws.proofs.ClearLemmas.{index_stays}
use Rattle.spef_file.specs.Indexes.{IsIndexOf}
use Rattle.spef_file.specs.declared.spef_index.SpefIndex.{SpefIndex}
use Rattle.vg_patch.specs.Edits.{Edit, Rise, patched}
use Rattle.vg_scan.specs.Comments.{without_comments}
use Rattle.vg_scan.specs.declared.comments.Comments.TheVariants.{Spef}
use Rattle.vg_answer.specs.Answers.{said_by}
use Rattle.vg_answer.specs.declared.answer.Answer.{Answer}
use Rattle.vg_answer.specs.declared.output.Output.TheVariants.{Parasitics}
use Rattle.mode_segment.specs.Answers.{IsSegmentAnswer, IsSegmentSaid}
use Rattle.mode_segment.specs.Steps.{AreAllCut, IsAnswerWith}
use Rattle.mode_segment.specs.declared.cut.Cutting.{Cutting}
use Rattle.mode_segment.proofs.ClearLemmas.{all_said, fit_stays, sections_stay}
use Rattle.vg_answer.proofs.VerdictLemmas.{said_as}
use Rattle.mode_segment.proofs.SectionLemmas.{patch_rises}

-- what is said of a text without its comments, and written of the text
pub answered : (clear raw : List ℕ) (index : SpefIndex) (net : Option (List ℕ)) (parts : ℕ) (cutting : Cutting) (answer : Answer)
    → without_comments Spef clear ≡ without_comments Spef raw → IsIndexOf clear index → AreAllCut clear index net parts cutting
    → IsAnswerWith cutting raw answer → IsSegmentAnswer raw net parts answer.kind (said_by answer)
answered clear raw index net parts cutting answer same of cut is =
    record {
      index = index;
      index_of = index_stays clear raw same index of;
      nets = said_as (IsSegmentSaid raw parts) refl (sym is.kind) (sym is.text) (all_said clear raw same parts net cutting.kind cutting.text.items cut.nets);
      rs = cut.rs;
      cut = sections_stay clear raw same parts index net cut.rs (fit_stays raw clear (sym same) parts) cut.cut;
      files = is.files ∙ ap (λ (edits : List Edit). record { output = Parasitics; text = patched raw edits } ∷ []) cut.edits;
    }

-- what is replaced stands in order
pub rises : (text : List ℕ) (index : SpefIndex) (net : Option (List ℕ)) (parts : ℕ) (cutting : Cutting) → IsIndexOf text index
    → AreAllCut text index net parts cutting → Rise 0 (length text) cutting.patch
rises text index net parts cutting of cut =
    subst (λ (edits : List Edit). Rise 0 (length text) edits) (sym cut.edits) (patch_rises text index parts of cut.rs cut.cut.rise cut.cut.each)
