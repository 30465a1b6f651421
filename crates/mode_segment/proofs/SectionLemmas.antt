-- Sections that are replaced one after another.
use Rattle.std.proofs.Common.{◌≡◌, ℕ, zero, suc, ◌+◌, ◌<◌, ◌≤◌, List, [], ◌∷◌, ◌++◌, length, refl, sym, ◌∙◌, subst, arith, inl, inr, Some, All}
use Rattle.std.specs.List.{Contains, slice_get}
use Rattle.std.proofs.lemmas.List.{map-append}
use Rattle.std.proofs.lemmas.List.Elements.{All-append, All-cons, All-head, All-nil, All-tail, Contains-append_cases, Contains-append_left, Contains-append_right}
use Rattle.spef_file.specs.Indexes.{IsIndexOf}
use Rattle.spef_file.specs.Tables.{NetRow}
use Rattle.spef_file.specs.declared.spef_index.SpefIndex.{SpefIndex}
use Rattle.spef_net.specs.declared.net.ParNet.{ParNet}
use Rattle.spef_patch_laws.specs.Replacements.{Replacement, NumbersRise, change_of}
use Rattle.spef_patch_laws.specs.ReplacementLaws.{replaced_names}
use Rattle.spef_patch_laws.specs.Sections.{edit_of}
use Rattle.spef_patch_laws.proofs.IndexLemmas.{rows_rise, span_at}
use Rattle.vg_patch.specs.Edits.{Edit, Rise, end_of}
use Rattle.vg_scan.specs.declared.comments.Comments.TheVariants.{Spef}
use Rattle.vg_scan.proofs.PieceLemmas.{length-without}
use Rattle.vg_segment.specs.Texts.{AreCutSections, IsCutSection, IsFit}
use Rattle.mode_segment.specs.Steps.{edits_of}

-- ---- numbers

abbrev pub AreBelow : ℕ → List Replacement → Type 0
AreBelow at rs = All (λ (r : Replacement). r.number < at) rs

rise_more : (low at : ℕ) (rs : List Replacement) (r : Replacement) → NumbersRise low rs → AreBelow at rs → low ≤ at → at ≤ r.number
    → NumbersRise low (rs ++ r ∷ [])
rise_more low at [] r rise below le from = (omega (arith, le, from), tt)
rise_more low at (q ∷ rs) r rise below le from = (
  rise.0,
  rise_more (q.number + 1) at rs r rise.1 (All-tail (λ (x : Replacement). x.number < at) q rs below)
      (omega (arith, All-head (λ (x : Replacement). x.number < at) q rs below)) from,
)

pub wider : (at : ℕ) (rs : List Replacement) → AreBelow at rs → AreBelow (at + 1) rs
wider at rs below = λ i d low. omega (arith, below i d low)

pub below_more : (at : ℕ) (rs : List Replacement) (r : Replacement) → AreBelow at rs → r.number ≡ at → AreBelow (at + 1) (rs ++ r ∷ [])
below_more at rs r below is =
    All-append (λ (x : Replacement). x.number < at + 1) rs (r ∷ []) (wider at rs below)
    (All-cons (λ (x : Replacement). x.number < at + 1) r [] (omega (arith, is)) (All-nil (λ (x : Replacement). x.number < at + 1)))

-- ---- names

asked_more : (names : List (List ℕ)) (name : List ℕ) (rs : List Replacement) → All (Contains names) (replaced_names rs)
    → All (Contains (names ++ name ∷ [])) (replaced_names rs)
asked_more names name rs asked = λ i d low. Contains-append_left names (name ∷ []) _ (asked i d low)

here : (name : List ℕ) (rest : List (List ℕ)) → Contains (name ∷ rest) name
here name rest = (0, omega arith, refl)

one_of : (name other : List ℕ) → Contains (name ∷ []) other → other ≡ name
one_of name other (zero, low, at) = sym at
one_of name other (suc k, low, at) = absurd (omega (arith, low))

module _ (text : List ℕ) (index : SpefIndex) (parts : ℕ) where
  pub none_cut : AreCutSections text index parts [] []
  none_cut = record {
    rise = tt;
    each = All-nil (IsCutSection text index parts);
    asked = All-nil (Contains []);
    all = λ name (k, low, at) net fit. absurd (omega (arith, low));
  }

  module _ (names : List (List ℕ)) (rs : List Replacement) (cut : AreCutSections text index parts names rs) (name : List ℕ) where
    -- one section more
    pub cut_more : (at : ℕ) (r : Replacement) → AreBelow at rs → r.number ≡ at → IsCutSection text index parts r → r.row.0 ≡ name
        → AreCutSections text index parts (names ++ name ∷ []) (rs ++ r ∷ [])
    cut_more at r below number is named =
        let more : replaced_names (rs ++ r ∷ []) ≡ replaced_names rs ++ r.row.0 ∷ [] = map-append (λ (q : Replacement). q.row.0) rs (r ∷ []) in
        record {
          rise = rise_more 0 at rs r cut.rise below (omega arith) (omega (arith, number));
          each =
              All-append (IsCutSection text index parts) rs (r ∷ []) cut.each
              (All-cons (IsCutSection text index parts) r [] is (All-nil (IsCutSection text index parts)));
          asked =
              subst (All (Contains (names ++ name ∷ []))) (sym more)
              (All-append (Contains (names ++ name ∷ [])) (replaced_names rs) (r.row.0 ∷ []) (asked_more names name rs cut.asked)
              (All-cons (Contains (names ++ name ∷ [])) r.row.0 []
              (Contains-append_right names (name ∷ []) r.row.0 (subst (Contains (name ∷ [])) (sym named) (here name [])))
              (All-nil (Contains (names ++ name ∷ [])))));
          all = λ other there net fit.
              subst (λ (ns : List (List ℕ)). Contains ns other) (sym more)
              (elim (Contains-append_cases names (name ∷ []) other there) as (λ _. Contains (replaced_names rs ++ r.row.0 ∷ []) other) [
                | inl before ↦ Contains-append_left (replaced_names rs) (r.row.0 ∷ []) other (cut.all other before net fit)
                | inr last ↦
                    Contains-append_right (replaced_names rs) (r.row.0 ∷ []) other
                    (subst (Contains (r.row.0 ∷ [])) (named ∙ sym (one_of name other last)) (here r.row.0 []))
              ]);
        }

    -- a net that is not fit
    pub kept_more : ((net : ParNet) → IsFit text parts name net → ⊥) → AreCutSections text index parts (names ++ name ∷ []) rs
    kept_more unfit = record {
      rise = cut.rise;
      each = cut.each;
      asked = asked_more names name rs cut.asked;
      all = λ other there net fit.
          elim (Contains-append_cases names (name ∷ []) other there) as (λ _. Contains (replaced_names rs) other) [
            | inl before ↦ cut.all other before net fit
            | inr last ↦ absurd (unfit net (subst (λ (n : List ℕ). IsFit text parts n net) (one_of name other last) fit))
          ];
    }

-- ---- places

end_below : (edits : List Edit) (end : ℕ) → All (λ (e : Edit). e.to ≤ end) edits → end_of edits ≤ end
end_below [] end all = omega arith
end_below (e ∷ []) end all = All-head (λ (x : Edit). x.to ≤ end) e [] all
end_below (e ∷ next ∷ edits) end all = end_below (next ∷ edits) end (All-tail (λ (x : Edit). x.to ≤ end) e (next ∷ edits) all)

module _ (text : List ℕ) (index : SpefIndex) (parts : ℕ) (of : IsIndexOf text index) where
  ends_below : (at : ℕ) (row : NetRow) → slice_get index.sections at ≡ Some row → (rs : List Replacement)
      → All (IsCutSection text index parts) rs → AreBelow at rs → All (λ (e : Edit). e.to ≤ row.1.from) (edits_of index rs)
  ends_below at row e [] each below = All-nil (λ (x : Edit). x.to ≤ row.1.from)
  ends_below at row e (r ∷ rs) each below =
      let cut = All-head (IsCutSection text index parts) r rs each in
      All-cons (λ (x : Edit). x.to ≤ row.1.from) (edit_of index.header (change_of r)) (edits_of index rs)
      (rows_rise text index of r.number at r.row row cut.at e (All-head (λ (x : Replacement). x.number < at) r rs below))
      (ends_below at row e rs (All-tail (IsCutSection text index parts) r rs each) (All-tail (λ (x : Replacement). x.number < at) r rs below))

  -- what is replaced ends before a later section
  pub ends_before : (at : ℕ) (row : NetRow) → slice_get index.sections at ≡ Some row → (rs : List Replacement)
      → All (IsCutSection text index parts) rs → AreBelow at rs → end_of (edits_of index rs) ≤ row.1.from
  ends_before at row e rs each below = end_below (edits_of index rs) row.1.from (ends_below at row e rs each below)

  -- the sections stand one after another, within the text
  rise_from : (low at end : ℕ) (rs : List Replacement) → NumbersRise low rs → All (IsCutSection text index parts) rs
      → ((k : ℕ) (row : NetRow) → low ≤ k → slice_get index.sections k ≡ Some row → at ≤ row.1.from)
      → ((k : ℕ) (row : NetRow) → slice_get index.sections k ≡ Some row → row.1.to ≤ end) → at ≤ end
      → Rise at end (edits_of index rs)
  rise_from low at end [] rise each from within le = le
  rise_from low at end (r ∷ rs) rise each from within le =
      let cut = All-head (IsCutSection text index parts) r rs each in (
        from r.number r.row rise.0 cut.at,
        (let order = (span_at text index of r.number r.row cut.at).order in omega (arith, order)),
        rise_from (r.number + 1) r.row.1.to end rs rise.1 (All-tail (IsCutSection text index parts) r rs each)
            (λ k row l e. rows_rise text index of r.number k r.row row cut.at e (omega (arith, l))) within
            (within r.number r.row cut.at),
      )

  pub patch_rises : (rs : List Replacement) → NumbersRise 0 rs → All (IsCutSection text index parts) rs
      → Rise 0 (length text) (edits_of index rs)
  patch_rises rs rise each =
      rise_from 0 0 (length text) rs rise each (λ k row l e. omega arith)
      (λ k row e. let order = (span_at text index of k row e).order in omega (arith, order, length-without Spef text)) (omega arith)
