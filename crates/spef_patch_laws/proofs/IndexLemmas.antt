-- The sections of an index may be replaced where they stand in the text.
use Rattle.std.proofs.Common.{◌≡◌, ℕ, ◌+◌, ◌-◌, ◌<◌, ◌≤◌, inl, inr, false, List, [], ◌∷◌, ◌++◌, length, take, drop, get_or, map, codes, refl, sym, ap, ◌∙◌, arith, subst, append_assoc, Some, is_some, All}
use Rattle.std.proofs.lemmas.List.{append-nil, take-append-drop}
use Rattle.std.proofs.lemmas.List.Elements.{All-head, All-tail, All-map, All-get_or, AllZip-get_or}
use Rattle.std.proofs.lemmas.Option.{slice_get-map, slice_get_within, get_or_from_slice_get}
use Rattle.std.specs.List.{slice_get}
use Rattle.std.specs.Prelude.{option_map}
use Rattle.vg_patch.specs.Edits.{Rise}
use Rattle.vg_scan.specs.Comments.{without_comments, StaysOrBlanks}
use Rattle.vg_scan.specs.declared.comments.Comments.TheVariants.{Spef}
use Rattle.vg_scan.specs.Lines.{Line, lines_of}
use Rattle.vg_scan.specs.Parts.{IsFirstSolid}
use Rattle.vg_scan.specs.Printed.{is_solid}
use Rattle.vg_scan.proofs.ClearedLemmas.{two}
use Rattle.vg_scan.proofs.PieceLemmas.{comments_only_blank, length-without}
use Rattle.spef_file.specs.declared.spef_index.SpefIndex.{SpefIndex}
use Rattle.spef_file.specs.Files.{File, file_lines}
use Rattle.spef_file.specs.HeaderLines.{in_header, chars_of}
use Rattle.spef_file.specs.Indexes.{IsIndexOf}
use Rattle.spef_file.specs.Nets.{end_at}
use Rattle.spef_file.specs.NetSpans.{IsSpan}
use Rattle.spef_file.specs.Statements.{gathered, net_in, nets_of}
use Rattle.spef_file.specs.Tables.{NetRow}
use Rattle.spef_file.specs.Views.{head_in as head_of, heads_in}
use Rattle.spef_file.proofs.TextLemmas.{get_drop}
use Rattle.spef_write.specs.Splices.{IsCutAt}
use Rattle.spef_write.proofs.SpliceLemmas.{cuts_keep_comments}
use Rattle.spef_patch_laws.specs.PatchLaws.{IsQuietEdit}
use Rattle.spef_patch_laws.specs.Runs.{head_in}
use Rattle.spef_patch_laws.specs.Sections.{SectionLines, edit_of, IsChange}
use Rattle.spef_patch_laws.specs.Replacements.{Replacement, IsReplacement, NumbersRise, change_of, SectionsMayChange}
use Rattle.spef_patch_laws.proofs.StepLemmas.{over_more, header_stays}
use Rattle.spef_patch_laws.proofs.PatchLemmas.{ends_keep}
use Rattle.spef_patch_laws.proofs.InnerLemmas.{writable_nets}
use Rattle.spef_patch_laws.proofs.QuietLemmas.{sections_quiet}
use Rattle.spef_patch_laws.proofs.SpanLemmas.{IsPlaced, span_placed}
use Rattle.spef_patch_laws.proofs.HeadLemmas.{Begins, begins, head_at, heads_rise, head_ends, section_behind}

-- ---- a cut behind `*END`

stays : (b c : ℕ) → StaysOrBlanks b c → (c ≡ 32 → ⊥) → b ≡ c
stays b c (inl e) other = sym e
stays b c (inr h) other = absurd (other h.1)

module _ (text : List ℕ) (from to : ℕ) (at : SectionLines (without_comments Spef text) from to) where
  four : to ≡ to - 4 + 4
  four = (let l = at.order.2 in omega arith)

  len : length (without_comments Spef text) ≡ length text
  len = length-without Spef text

  clear_byte : (i : ℕ) → get_or (without_comments Spef text) (to - 4 + i) 0 ≡ get_or (codes "*END" ++ drop to (without_comments Spef text)) i 0
  clear_byte i = sym (get_drop (without_comments Spef text) (to - 4) i) ∙ ap (λ xs. get_or xs i 0) at.word

  text_byte : (i b : ℕ) → i < 4 → get_or (codes "*END" ++ drop to (without_comments Spef text)) i 0 ≡ b → (b ≡ 32 → ⊥) → get_or text (to - 4 + i) 0 ≡ b
  text_byte i b l e other =
      let same : get_or (without_comments Spef text) (to - 4 + i) 0 ≡ b = clear_byte i ∙ e in
      stays (get_or text (to - 4 + i) 0) (get_or (without_comments Spef text) (to - 4 + i) 0)
      (AllZip-get_or StaysOrBlanks text (without_comments Spef text) (to - 4 + i) 0 0 (comments_only_blank Spef text) (omega (arith, l, len, four, at.order)))
      (λ f. other (sym same ∙ f)) ∙ same

  word_there : drop (to - 4) text ≡ codes "*END" ++ drop (to - 4 + 4) text
  word_there =
      let n = to - 4 in
      let a : get_or text n 0 ≡ 42 = ap (λ k. get_or text k 0) (let x : n ≡ n + 0 = omega arith in x) ∙ text_byte 0 42 (omega arith) refl (λ e. omega (arith, e)) in
      let b : get_or text (n + 1) 0 ≡ 69 = text_byte 1 69 (omega arith) refl (λ e. omega (arith, e)) in
      let c : get_or text (n + 2) 0 ≡ 78 = text_byte 2 78 (omega arith) refl (λ e. omega (arith, e)) in
      let d : get_or text (n + 2 + 1) 0 ≡ 68 = ap (λ k. get_or text k 0) (let x : n + 2 + 1 ≡ n + 3 = omega arith in x) ∙ text_byte 3 68 (omega arith) refl (λ e. omega (arith, e)) in
      two text n (omega (arith, len, four, at.order))
      ∙ (λ i. a i ∷ b i ∷ two text (n + 2) (omega (arith, len, four, at.order)) i)
      ∙ (λ i. 42 ∷ 69 ∷ c i ∷ d i ∷ drop (let x : n + 2 + 2 ≡ n + 4 = omega arith in x i) text)

  end_first : IsFirstSolid (without_comments Spef text) (to - 4)
  end_first = record {
    line = at.last;
    begins = λ some within. at.ends;
    order = (let l = at.order.2 in omega arith);
    blank = at.blank.1;
    solid = ap (λ k. is_solid (get_or (without_comments Spef text) k 0)) (let x : to - 4 ≡ to - 4 + 0 = omega arith in x) ∙ ap is_solid (clear_byte 0);
  }

  pub cut_end : IsCutAt text to
  cut_end = subst (IsCutAt text) (sym four) (ends_keep text (to - 4) end_first (omega (arith, len, four, at.order)) word_there)

-- ---- the header

chars_more : (before lines : List Line) → in_header before ≡ false → chars_of (before ++ lines) ≡ chars_of before
chars_more before [] over = ap chars_of (append-nil before)
chars_more before (line ∷ lines) over =
    ap chars_of (sym (append_assoc before (line ∷ []) lines))
    ∙ chars_more (before ++ line ∷ []) lines (over_more before line over)
    ∙ (header_stays before line over).chars

-- ---- sections of an index

-- a section of an index stands where it says, and its head is that of its net
pub record IsRowAt (text : List ℕ) (row : NetRow) : Type 0 where
  pub placed : IsPlaced (without_comments Spef text) (file_lines text) row.1
  pub starts : Begins (take (row.1.line - 1) (file_lines text)) (get_or (file_lines text) (row.1.line - 1) [])
  pub head : head_in (take (row.1.line - 1) (file_lines text)) (get_or (file_lines text) (row.1.line - 1) []) ≡ head_of row
  pub lines : (1 ≤ row.1.line) × (row.1.line ≤ length (file_lines text))

lines_are : (text : List ℕ) → file_lines text ≡ lines_of (without_comments Spef text)
lines_are text = refl

module _ (text : List ℕ) (index : SpefIndex) (is : IsIndexOf text index) where
  abbrev all : List Line
  all = file_lines text

  heads : heads_in index.sections ≡ gathered net_in [] all
  unfolding nets_of
  heads = ap (λ (f : File). f.nets) is.said.says

  at_place : (k : ℕ) (row : NetRow) → slice_get index.sections k ≡ Some row → slice_get (gathered net_in [] all) k ≡ Some (head_of row)
  at_place k row e = ap (λ hs. slice_get hs k) (sym heads) ∙ slice_get-map head_of index.sections k ∙ ap (option_map head_of) e

  pub span_at : (k : ℕ) (row : NetRow) → slice_get index.sections k ≡ Some row → IsSpan (without_comments Spef text) all row.1
  span_at k row e =
      let here = All-get_or (λ (net : NetRow). IsSpan (without_comments Spef text) all net.1) index.sections k row (slice_get_within index.sections k row e) is.spans in
      subst (λ (net : NetRow). IsSpan (without_comments Spef text) all net.1) (get_or_from_slice_get index.sections k row row e) here

  pub row_at : (k : ℕ) (row : NetRow) → slice_get index.sections k ≡ Some row → IsRowAt text row
  row_at k row e =
      let h = head_at [] all k (head_of row) (at_place k row e) in
      let n = row.1.line - 1 in
      let line : row.1.line ≡ h.at + 1 = omega (arith, h.line) in
      let at : h.at ≡ n = omega (arith, line) in
      let b : Begins (take n all) (get_or all n []) = subst (λ m. Begins (take m all) (get_or all m [])) at (begins (take h.at all) (get_or all h.at []) h.head) in
      let ends = head_ends all h.at is.said.clear h.within h.head in
      record {
        placed = span_placed (without_comments Spef text) all row.1 (span_at k row e) (lines_are text) b.may b.opens (ap (λ m. is_some (end_at (drop m all))) line ∙ ends);
        starts = b;
        head = ap (λ m. head_in (take m all) (get_or all m [])) (sym at) ∙ h.is;
        lines = (omega (arith, line), omega (arith, line, h.within));
      }

  -- their order
  pub rows_rise : (j k : ℕ) (a b : NetRow) → slice_get index.sections j ≡ Some a → slice_get index.sections k ≡ Some b → j < k → a.1.to ≤ b.1.from
  rows_rise j k a b e f l =
      let p = row_at j a e in
      let q = row_at k b f in
      section_behind (without_comments Spef text) all a.1 b.1 (lines_are text) p.placed q.placed
      (heads_rise [] all j k (head_of a) (head_of b) (at_place j a e) (at_place k b f) l) p.lines.0 q.lines.1

  rise_from : (at low : ℕ) (rs : List Replacement) → at ≤ length text → NumbersRise low rs → All (IsReplacement index) rs
      → ((k : ℕ) (row : NetRow) → low ≤ k → slice_get index.sections k ≡ Some row → at ≤ row.1.from)
      → Rise at (length text) (map (edit_of index.header) (map change_of rs))
  rise_from at low [] l rise each past = l
  rise_from at low (r ∷ rs) l rise each past =
      let here : IsReplacement index r = All-head (IsReplacement index) r rs each in
      let order = (span_at r.number r.row here.at).order in
      let len = length-without Spef text in (
        past r.number r.row rise.0 here.at,
        omega (arith, order),
        rise_from r.row.1.to (r.number + 1) rs (omega (arith, order, len)) rise.1 (All-tail (IsReplacement index) r rs each)
            (λ k row m e. rows_rise r.number k r.row row here.at e (omega (arith, m))),
      )

  chars_are : chars_of all ≡ index.header.chars
  chars_are = sym (ap (λ (f : File). f.chars) is.said.says)

  change_is : (r : Replacement) → IsReplacement index r → IsChange (without_comments Spef text) index.header (change_of r)
  change_is r here =
      let p = row_at r.number r.row here.at in
      let n = r.row.1.line - 1 in
      record {
        section = p.placed.section_at;
        chars =
            ap chars_of p.placed.front
            ∙ sym (chars_more (take n all) (drop n all) p.starts.may.over) ∙ ap chars_of (take-append-drop n all) ∙ chars_are;
        some = here.some;
        written = λ k d l. writable_nets index.header (get_or r.nets k d) (here.nets k d l).writable;
      }

  quiet_edit : (r : Replacement) → IsReplacement index r → IsQuietEdit text (edit_of index.header (change_of r))
  quiet_edit r here =
      let p = row_at r.number r.row here.at in
      let span = span_at r.number r.row here.at in
      record {
        from = cuts_keep_comments text r.row.1.from span.first (omega (arith, span.order, length-without Spef text));
        to = cut_end text r.row.1.from r.row.1.to p.placed.section_at.at;
        quiet = sections_quiet index.header r.nets (λ k d l. (here.nets k d l).writable) (λ k d l. (here.nets k d l).notes);
      }

pub sections_may : SectionsMayChange
sections_may text index rs is are some = record {
  some = some_map rs some;
  rise = rise_from text index is 0 0 rs (omega arith) are.rise are.each (λ k row l e. omega arith);
  quiet = All-map (IsQuietEdit text) (edit_of index.header) (map change_of rs) (All-map (λ c. IsQuietEdit text (edit_of index.header c)) change_of rs (λ k d l. quiet_edit text index is (get_or rs k d) (are.each k d l)));
  changes_are = All-map (IsChange (without_comments Spef text) index.header) change_of rs (λ k d l. change_is text index is (get_or rs k d) (are.each k d l));
}
  where
    some_map : (rs : List Replacement) → 0 < length rs → 0 < length (map change_of rs)
    some_map [] l = l
    some_map (r ∷ rs) l = omega arith
