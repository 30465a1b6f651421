-- What mode `segment` answers: how many nodes nets have whose resistors are cut into parts, and the parasitics with
-- them.
use Rattle.std.specs.Prelude.{◌≡◌, ℕ, List, [], ◌∷◌, Option, Some, None}
use Rattle.spef_file.specs.Indexes.{IsIndexOf}
use Rattle.spef_file.specs.declared.spef_index.SpefIndex.{SpefIndex}
use Rattle.spef_net.specs.declared.net.ParNet.{ParNet}
use Rattle.spef_wire.specs.declared.refusal.Refusal.{Refusal}
use Rattle.spef_patch_laws.specs.Replacements.{Replacement, replaced}
use Rattle.vg_segment.specs.Texts.{AreCutSections, IsFit, IsSegmentRefusal, cut_count}
use Rattle.vg_design.specs.Designs.{net_names}
use Rattle.vg_report.specs.Reports.{refusal_line}
use Rattle.vg_answer.specs.Answers.{Said}
use Rattle.vg_answer.specs.Faults.{IsSpefFault}
use Rattle.vg_answer.specs.Verdicts.{Verdict, AreSaid, bare_verdict}
use Rattle.vg_answer.specs.declared.input.Input.{Input}
use Rattle.vg_answer.specs.declared.input.Input.TheVariants.{Spef}
use Rattle.vg_answer.specs.declared.kind.AnswerKind.{AnswerKind}
use Rattle.vg_answer.specs.declared.kind.AnswerKind.TheVariants.{Report, Refusal as Refused}
use Rattle.vg_answer.specs.declared.output.Output.TheVariants.{Parasitics}
use Rattle.mode_segment.specs.Lines.{segment_line}

-- the nets of a text that are asked for, in the order in which they are answered: all of them as the text has them
abbrev pub nets_in : List ℕ → Option (List ℕ) → List (List ℕ)
nets_in text (Some name) = name ∷ []
nets_in text None = net_names text

-- the net is cut, and it is told how many nodes it has then; or it is refused
pub data IsSegmentSaid (text : List ℕ) (parts : ℕ) (name : List ℕ) (said : Verdict) : Type 0 where
  told_cut : (net : ParNet) → IsFit text parts name net
      → said ≡ bare_verdict Report (segment_line name parts (cut_count parts net)) → IsSegmentSaid text parts name said
  told_refusal : (refusal : Refusal) → IsSegmentRefusal text parts name refusal
      → said ≡ bare_verdict Refused (refusal_line name refusal)
      → IsSegmentSaid text parts name said

-- This is said of the nets of a text that are asked for, one or all. The text is written with the sections of those
-- that are cut in place of theirs.
pub record IsSegmentAnswer (text : List ℕ) (net : Option (List ℕ)) (parts : ℕ) (kind : AnswerKind)
    (said : Said) : Type 0 where
  pub index : SpefIndex
  pub index_of : IsIndexOf text index
  pub nets : AreSaid (IsSegmentSaid text parts) (nets_in text net) kind said.text
  pub rs : List Replacement
  pub cut : AreCutSections text index parts (nets_in text net) rs
  pub files : said.files ≡ record { output = Parasitics; text = replaced text index rs } ∷ []

-- the fault of the file
abbrev pub IsSegmentFault : List ℕ → List ℕ → Input → Type 0
IsSegmentFault file line input = (input ≡ Spef) × IsSpefFault file line
