-- What is said of nets and replaced in their text: for the functions between.
use Rattle.std.specs.Prelude.{◌≡◌, ℕ, List, [], ◌∷◌, ◌++◌, map, Option, Some, ◌≤◌}
use Rattle.std.specs.List.{slice_get}
use Rattle.spef_file.specs.declared.section.Section.{Section}
use Rattle.spef_file.specs.declared.spef_index.SpefIndex.{SpefIndex}
use Rattle.spef_patch_laws.specs.Replacements.{Replacement, change_of}
use Rattle.spef_patch_laws.specs.Sections.{edit_of}
use Rattle.vg_patch.specs.Edits.{Edit, end_of, patched}
use Rattle.spef_wire.specs.declared.refusal.Refusal.{Refusal}
use Rattle.vg_segment.specs.Texts.{AreCutSections, IsCutSection, IsSegmentRefusal}
use Rattle.vg_answer.specs.Answers.{said_by}
use Rattle.vg_answer.specs.Verdicts.{AreSaid, SaysOfNet}
use Rattle.vg_answer.specs.declared.answer.Answer.{Answer}
use Rattle.vg_answer.specs.declared.output.Output.TheVariants.{Parasitics}
use Rattle.vg_answer.specs.declared.kind.AnswerKind.{AnswerKind}
use Rattle.mode_segment.specs.Answers.{IsSegmentSaid, nets_in}
use Rattle.mode_segment.specs.declared.cut.Cutting.{Cutting}

-- the parts of a text that these replace
abbrev pub edits_of : SpefIndex → List Replacement → List Edit
edits_of index rs = map (edit_of index.header) (map change_of rs)

-- this was said of the nets of these names, and the sections of those that are cut are replaced
pub record AreCut (text : List ℕ) (index : SpefIndex) (parts : ℕ) (names : List (List ℕ)) (kind : AnswerKind)
    (lines : List ℕ) (patch : List Edit) : Type 0 where
  pub nets : AreSaid (IsSegmentSaid text parts) names kind lines
  pub rs : List Replacement
  pub cut : AreCutSections text index parts names rs
  pub edits : patch ≡ edits_of index rs

-- the same of one net more, which is cut, or is refused
pub data IsCutNext (text : List ℕ) (index : SpefIndex) (parts : ℕ) (name : List ℕ) (kind : AnswerKind)
    (old_lines lines : List ℕ) (old patch : List Edit) : Type 0 where
  cut : (r : Replacement) → IsCutSection text index parts r → r.row.0 ≡ name
      → SaysOfNet (IsSegmentSaid text parts name) kind old_lines lines
      → patch ≡ old ++ edit_of index.header (change_of r) ∷ [] → IsCutNext text index parts name kind old_lines lines old patch
  refused : (refusal : Refusal) → IsSegmentRefusal text parts name refusal
      → SaysOfNet (IsSegmentSaid text parts name) kind old_lines lines
      → patch ≡ old → IsCutNext text index parts name kind old_lines lines old patch

-- what is replaced stands before the section of this name
abbrev pub IsBefore : SpefIndex → List Edit → List ℕ → Type 0
IsBefore index patch name =
    (k : ℕ) (section : Section) → slice_get index.sections k ≡ Some (name, section) → end_of patch ≤ section.from

-- what is said of the nets of a text that are asked for, and the parts of it that are replaced
abbrev pub AreAllCut : List ℕ → SpefIndex → Option (List ℕ) → ℕ → Cutting → Type 0
AreAllCut text index net parts cutting =
    AreCut text index parts (nets_in text net) cutting.kind cutting.text.items cutting.patch

-- the answer says this, and writes the text with these parts replaced
pub record IsAnswerWith (cutting : Cutting) (spef : List ℕ) (answer : Answer) : Type 0 where
  pub kind : answer.kind ≡ cutting.kind
  pub text : answer.text.items ≡ cutting.text.items
  pub files : (said_by answer).files ≡ record { output = Parasitics; text = patched spef cutting.patch } ∷ []
