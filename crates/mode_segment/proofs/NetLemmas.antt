-- One net: its section, and what is said of it.
use Rattle.std.proofs.Common.{◌≡◌, ℕ, ◌≤◌, true, false, List, ◌++◌, refl, sym, ap, ◌∙◌, subst, arith, inl, inr, Option, Some, None, is_some}
use Rattle.std.specs.List.{Contains, position, slice_get}
use Rattle.std.specs.Str.{bytes_eq}
use Rattle.std.proofs.lemmas.Bool.{cases_Bool}
use Rattle.std.proofs.lemmas.Option.{slice_get-get_or}
use Rattle.spef_file.proofs.TableLemmas.{position_any}
use Rattle.spef_file.specs.Indexes.{IsIndexOf}
use Rattle.spef_file.specs.Tables.{is_section, names_of}
use Rattle.spef_file.specs.declared.section.Section.{Section}
use Rattle.spef_file.specs.declared.spef_index.SpefIndex.{SpefIndex}
use Rattle.spef_net.specs.declared.net.ParNet.{ParNet}
use Rattle.spef_patch_laws.proofs.IndexLemmas.{span_at}
use Rattle.spef_wire.specs.Nets.{IsNetNamed}
use Rattle.spef_wire.specs.Refusals.{PassesUpTo}
use Rattle.spef_wire.specs.declared.refusal.Refusal.{Refusal}
use Rattle.spef_wire.specs.declared.refusal.Refusal.TheVariants.{Inductive}
use Rattle.spef_wire.proofs.AnswerLemmas.{not_missing}
use Rattle.spef_wire.proofs.NamedLemmas.{none_named}
use Rattle.vg_change.proofs.RowLemmas.{name_is}
use Rattle.vg_patch.specs.Edits.{Edit, end_of}
use Rattle.vg_report.specs.Reports.{refusal_line}
use Rattle.vg_segment.specs.Texts.{IsFit, IsReplaced, IsSegmentRefusal, cut_count}
use Rattle.vg_answer.specs.declared.kind.AnswerKind.TheVariants.{Report, Refusal as Refused}
use Rattle.mode_segment.specs.Answers.{IsSegmentSaid}
use Rattle.mode_segment.specs.Lines.{segment_line}
use Rattle.mode_segment.specs.Steps.{IsBefore, IsCutNext}

-- an accepted net has no inductances
pub is_plain : (net : ParNet) → PassesUpTo 17 net → net.inductive ≡ false
is_plain net passes = elim (cases_Bool net.inductive) [
  | inl is ↦ absurd (passes Inductive (omega arith) is)
  | inr is ↦ is
]

module _ (text : List ℕ) (index : SpefIndex) (of : IsIndexOf text index) where
  -- a net that a text has has a section
  pub has_section : (name : List ℕ) (net : ParNet) → IsNetNamed text name net → is_section index.sections net.name ≡ true
  has_section name net named =
      subst (λ (n : List ℕ). is_section index.sections n ≡ true) (name_is text name net named)
      (sym (position_any (bytes_eq name) (names_of index.sections)) ∙ found (position (bytes_eq name) (names_of index.sections)) refl)
    where
      found : (o : Option ℕ) → position (bytes_eq name) (names_of index.sections) ≡ o → is_some o ≡ true
      found (Some k) e = refl
      found None e = absurd (not_missing text name net named (none_named text index name of (sym e)))

  -- what is replaced stands before it
  pub stands_behind : (name : List ℕ) (net : ParNet) (patch : List Edit) → name ≡ net.name → IsBefore index patch name
      → (section : Section) → Contains index.sections (net.name, section) → (end_of patch ≤ section.from) × (section.from ≤ section.to)
  stands_behind name net patch same before section (k, low, at) =
      let here : slice_get index.sections k ≡ Some (net.name, section) =
      slice_get-get_or index.sections k (net.name, section) low ∙ ap Some at in
      let order = (span_at text index of k (net.name, section) here).order in (
        before k section (subst (λ (n : List ℕ). slice_get index.sections k ≡ Some (n, section)) (sym same) here),
        omega (arith, order),
      )

  -- a net that is cut
  pub is_cut : (parts : ℕ) (name : List ℕ) (net : ParNet) (nodes : ℕ) (old_lines lines : List ℕ) (old patch : List Edit) → IsFit text parts name net
      → IsReplaced index parts net old patch → nodes ≡ cut_count parts net → lines ≡ old_lines ++ segment_line name parts nodes
      → IsCutNext text index parts name Report old_lines lines old patch
  is_cut parts name net nodes old_lines lines old patch fit replaced count printed =
      let same : replaced.r.row.0 ≡ name = replaced.named ∙ sym (name_is text name net fit.named) in
      IsCutNext.cut replaced.r
      (record {
        at = replaced.at;
        net = net;
        fit = subst (λ (n : List ℕ). IsFit text parts n net) (sym same) fit;
        cut = replaced.cut;
        cut_of = replaced.cut_of;
        is = replaced.is;
      })
      same
      (record {
        text = segment_line name parts (cut_count parts net);
        says = IsSegmentSaid.told_cut net fit refl;
        is = printed ∙ ap (λ (n : ℕ). old_lines ++ segment_line name parts n) count;
      })
      replaced.last

  -- and one that is refused
  pub is_refused : (parts : ℕ) (name : List ℕ) (refusal : Refusal) (old_lines lines : List ℕ) (patch : List Edit) → IsSegmentRefusal text parts name refusal
      → lines ≡ old_lines ++ refusal_line name refusal → IsCutNext text index parts name Refused old_lines lines patch patch
  is_refused parts name refusal old_lines lines patch refused printed =
      IsCutNext.refused refusal refused
      (record { text = refusal_line name refusal; says = IsSegmentSaid.told_refusal refusal refused refl; is = printed }) refl
