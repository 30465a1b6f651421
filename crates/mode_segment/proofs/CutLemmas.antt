-- What is said of nets and replaced in their text, net by net.
use Rattle.std.proofs.Common.{◌≡◌, ℕ, ◌+◌, ◌<◌, ◌≤◌, List, [], ◌∷◌, ◌++◌, length, map, take, refl, sym, ap, ◌∙◌, subst, arith, Option, Some, None}
use Rattle.std.specs.List.{slice_get}
use Rattle.std.specs.Prelude.{option_map}
use Rattle.std.proofs.lemmas.List.{length-map, map-append, take_all}
use Rattle.std.proofs.lemmas.List.Elements.{All-nil}
use Rattle.change_spef_laws.proofs.OrderLemmas.{net_place, row_name}
use Rattle.spef_file.specs.Files.{File}
use Rattle.spef_file.specs.IndexFiles.{file_of}
use Rattle.spef_file.specs.Indexes.{IsIndexOf}
use Rattle.spef_file.specs.Nets.{NetHead}
use Rattle.spef_file.specs.Tables.{NetRow}
use Rattle.spef_file.specs.Views.{head_in}
use Rattle.spef_file.specs.declared.spef_index.SpefIndex.{SpefIndex}
use Rattle.spef_net.specs.declared.net.ParNet.{ParNet}
use Rattle.spef_patch_laws.specs.Replacements.{Replacement, change_of}
use Rattle.spef_patch_laws.specs.Sections.{edit_of}
use Rattle.spef_wire.specs.declared.refusal.Refusal.{Refusal}
use Rattle.vg_design.specs.Designs.{net_names}
use Rattle.vg_patch.specs.Edits.{Edit, end_of}
use Rattle.vg_segment.specs.Texts.{AreCutSections, IsFit, IsSegmentRefusal}
use Rattle.vg_segment.proofs.FitLemmas.{fit_not_refused}
use Rattle.vg_answer.specs.Verdicts.{worse}
use Rattle.vg_answer.specs.declared.kind.AnswerKind.{AnswerKind}
use Rattle.vg_answer.specs.declared.kind.AnswerKind.TheVariants.{Report}
use Rattle.vg_answer.proofs.ApartLemmas.{few_refusals}
use Rattle.vg_answer.proofs.VerdictLemmas.{first_net, said_as, said_net, said_nothing}
use Rattle.mode_segment.specs.Answers.{IsSegmentSaid}
use Rattle.mode_segment.specs.Steps.{AreCut, IsBefore, IsCutNext, edits_of}
use Rattle.mode_segment.proofs.SectionLemmas.{AreBelow, below_more, cut_more, ends_before, kept_more, none_cut, wider}

-- the nets of so many first sections
pub record AreCutBefore (text : List ℕ) (index : SpefIndex) (parts at : ℕ) (kind : AnswerKind) (lines : List ℕ)
    (patch : List Edit) : Type 0 where
  pub cut : AreCut text index parts (take at (net_names text)) kind lines patch
  pub below : AreBelow at cut.rs

module _ (text : List ℕ) (index : SpefIndex) (parts : ℕ) where
  -- none yet
  pub none_before : (lines : List ℕ) (patch : List Edit) → lines ≡ [] → patch ≡ [] → AreCutBefore text index parts 0 Report lines patch
  none_before lines patch none bare = record {
    cut = record {
      nets = said_as (IsSegmentSaid text parts) refl refl (sym none) (said_nothing (IsSegmentSaid text parts));
      rs = [];
      cut = none_cut text index parts;
      edits = bare;
    };
    below = All-nil (λ (r : Replacement). r.number < 0);
  }

  edits_more : (rs : List Replacement) (r : Replacement) → edits_of index (rs ++ r ∷ []) ≡ edits_of index rs ++ edit_of index.header (change_of r) ∷ []
  edits_more rs r = ap (map (edit_of index.header)) (map-append change_of rs (r ∷ [])) ∙ map-append (edit_of index.header) (map change_of rs) (change_of r ∷ [])

  unfit : (name : List ℕ) (refusal : Refusal) → IsSegmentRefusal text parts name refusal → (net : ParNet) → IsFit text parts name net → ⊥
  unfit name refusal refused net fit = fit_not_refused text parts name net refusal (few_refusals refusal) fit refused

  module _ (of : IsIndexOf text index) where
    -- the section of a number has the name of the net
    number_is : (at : ℕ) (name : List ℕ) (r : Replacement) → slice_get (net_names text) at ≡ Some name → slice_get index.sections r.number ≡ Some r.row
        → r.row.0 ≡ name → r.number ≡ at
    number_is at name r there e named =
        net_place text (file_of index) r.number at name of.said (row_name text index of r.number r.row e ∙ ap Some named) there

    -- the name of a section is that of the net
    pub name_at : (at : ℕ) (name : List ℕ) → option_map (λ (row : NetRow). row.0) (slice_get index.sections at) ≡ Some name
        → slice_get (net_names text) at ≡ Some name
    name_at at name e = of_row (slice_get index.sections at) refl e
      where
        of_row : (o : Option NetRow) → slice_get index.sections at ≡ o → option_map (λ (row : NetRow). row.0) o ≡ Some name
            → slice_get (net_names text) at ≡ Some name
        of_row (Some row) there is = row_name text index of at row there ∙ is
        of_row None there is = absurd cc

    -- there are as many names as sections
    pub all_names : (at : ℕ) → length index.sections ≤ at → take at (net_names text) ≡ net_names text
    all_names at past =
        let count : length (net_names text) ≡ length index.sections =
        ap (λ (said : File). length (map (λ (h : NetHead). h.name) said.nets)) (sym of.said.says)
        ∙ length-map (map head_in index.sections) (λ (h : NetHead). h.name) ∙ length-map index.sections head_in in
        take_all at (net_names text) (omega (arith, count, past))

    -- one net more
    pub cut_next : (at : ℕ) (name : List ℕ) (kind more : AnswerKind) (old_lines lines : List ℕ) (old patch : List Edit)
        → slice_get (net_names text) at ≡ Some name → take (at + 1) (net_names text) ≡ take at (net_names text) ++ name ∷ []
        → AreCutBefore text index parts at kind old_lines old → IsCutNext text index parts name more old_lines lines old patch
        → AreCutBefore text index parts (at + 1) (worse kind more) lines patch
    cut_next at name kind more old_lines lines old patch there next before (IsCutNext.cut r is named says edits) =
        let names = take at (net_names text) in
        let number = number_is at name r there is.at named in
        record {
          cut = record {
            nets = said_as (IsSegmentSaid text parts) (sym next) refl refl (said_net (IsSegmentSaid text parts) before.cut.nets name says);
            rs = before.cut.rs ++ r ∷ [];
            cut =
                subst (λ (ns : List (List ℕ)). AreCutSections text index parts ns (before.cut.rs ++ r ∷ [])) (sym next)
                (cut_more text index parts names before.cut.rs before.cut.cut name at r before.below number is named);
            edits = edits ∙ ap (λ (es : List Edit). es ++ edit_of index.header (change_of r) ∷ []) before.cut.edits ∙ sym (edits_more before.cut.rs r);
          };
          below = below_more at before.cut.rs r before.below number;
        }
    cut_next at name kind more old_lines lines old patch there next before (IsCutNext.refused refusal refused says edits) =
        let names = take at (net_names text) in
        record {
          cut = record {
            nets = said_as (IsSegmentSaid text parts) (sym next) refl refl (said_net (IsSegmentSaid text parts) before.cut.nets name says);
            rs = before.cut.rs;
            cut =
                subst (λ (ns : List (List ℕ)). AreCutSections text index parts ns before.cut.rs) (sym next)
                (kept_more text index parts names before.cut.rs before.cut.cut name (unfit name refusal refused));
            edits = edits ∙ before.cut.edits;
          };
          below = wider at before.cut.rs before.below;
        }

    -- what is replaced stands before the next section
    pub next_before : (at : ℕ) (name : List ℕ) (kind : AnswerKind) (lines : List ℕ) (patch : List Edit) → slice_get (net_names text) at ≡ Some name
        → AreCutBefore text index parts at kind lines patch → IsBefore index patch name
    next_before at name kind lines patch there before k section e =
        let number : k ≡ at = net_place text (file_of index) k at name of.said (row_name text index of k (name, section) e) there in
        let here : slice_get index.sections at ≡ Some (name, section) = ap (slice_get index.sections) (sym number) ∙ e in
        omega (
          arith,
          ap end_of before.cut.edits,
          ends_before text index parts of at (name, section) here before.cut.rs before.cut.cut.each before.below,
        )

    -- one net alone
    pub cut_one : (name : List ℕ) (kind : AnswerKind) (old_lines lines : List ℕ) (old patch : List Edit) → old_lines ≡ [] → old ≡ []
        → IsCutNext text index parts name kind old_lines lines old patch → AreCut text index parts (name ∷ []) kind lines patch
    cut_one name kind old_lines lines old patch none bare (IsCutNext.cut r is named says edits) = record {
      nets = first_net (IsSegmentSaid text parts) name kind old_lines lines none says;
      rs = r ∷ [];
      cut = cut_more text index parts [] [] (none_cut text index parts) name r.number r (All-nil (λ (q : Replacement). q.number < r.number)) refl is named;
      edits = edits ∙ ap (λ (es : List Edit). es ++ edit_of index.header (change_of r) ∷ []) bare;
    }
    cut_one name kind old_lines lines old patch none bare (IsCutNext.refused refusal refused says edits) = record {
      nets = first_net (IsSegmentSaid text parts) name kind old_lines lines none says;
      rs = [];
      cut = kept_more text index parts [] [] (none_cut text index parts) name (unfit name refusal refused);
      edits = edits ∙ bare;
    }
