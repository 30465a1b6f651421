-- Sections that are replaced, one after another.
use Rattle.std.proofs.Common.{◌≡◌, ℕ, suc, ◌+◌, ◌-◌, ◌<◌, ◌≤◌, inl, inr, true, List, [], ◌∷◌, ◌++◌, length, take, drop, get_or, map, codes, refl, sym, ap, ◌∙◌, arith, subst, append_assoc, length-take, length-drop, drop-drop, All}
use Rattle.std.proofs.lemmas.Bool.{cases_lt}
use Rattle.std.proofs.lemmas.Int.{clamps}
use Rattle.std.proofs.lemmas.List.{append-nil, get_or-take}
use Rattle.std.proofs.lemmas.List.Elements.{All-head, All-tail}
use Rattle.std.specs.Str.Lines.{lines}
use Rattle.vg_patch.specs.Edits.{Rise, patched_from, patched}
use Rattle.vg_scan.specs.Comments.{without_comments}
use Rattle.vg_scan.specs.Lines.{part, is_blank}
use Rattle.vg_scan.specs.declared.comments.Comments.TheVariants.{Spef}
use Rattle.vg_scan.proofs.CutLemmas.{get_part}
use Rattle.vg_scan.proofs.PieceLemmas.{length-without}
use Rattle.spef_file.specs.declared.header.Header.{Header}
use Rattle.spef_file.proofs.TextLemmas.{get_drop, lines_split}
use Rattle.spef_patch_laws.specs.NetTexts.{AreSplices}
use Rattle.spef_patch_laws.specs.Sections.{SectionLines, sections_text, Change, edit_of, IsChange}
use Rattle.spef_patch_laws.specs.SectionLaws.{HasChanges, TextsHaveChanges}
use Rattle.spef_patch_laws.proofs.BlankLemmas.{has_blanks}
use Rattle.spef_patch_laws.proofs.PatchLemmas.{patches_keep}
use Rattle.spef_patch_laws.proofs.SectionLemmas.{both_lines, length_part, part_ends, part_then, part_both, drop_part, words_front, words_are, Tails, Sections, section_then}

-- behind the last section
no_tails : (text : List ℕ) (header : Header) (from to : ℕ) (at : SectionLines text from to) → Tails text header at.last to []
no_tails text header from to at =
    let last = at.last in
    let k = to - 4 - last in
    let hb = has_blanks (drop last text) k (omega (arith, length-drop last text, at.order))
    (λ j l. ap is_blank (get_drop text last j) ∙ at.blank.1 (last + j) (omega arith) (omega (arith, at.order))) in
    let d : drop k (drop last text) ≡ codes "*END" ++ drop to text =
    drop-drop k last text ∙ ap (λ n. drop n text) (let e : last + k ≡ to - 4 = omega (arith, at.order) in e) ∙ at.word in
    record {
      end = hb.first;
      new_end = hb.bare;
      kept = hb.rest;
      splices = [];
      old = hb.whole ∙ ap (λ ls. hb.first ∷ ls) (sym (append-nil hb.rest));
      new = ap lines (sym d) ∙ hb.behind ∙ ap (λ ls. hb.bare ∷ ls) (sym (append-nil hb.rest));
      same = sym hb.same;
      heads = refl;
      news = refl;
      are = tt;
    }

-- the next section begins on a later line
later_line : (text : List ℕ) (from to next start : ℕ) (at : SectionLines text from to) → to ≤ next → (0 < start → get_or text (start - 1) 0 ≡ 10)
    → ((k : ℕ) → start ≤ k → k < next → is_blank (get_or text k 0) ≡ true) → to < start
later_line text from to next start at behind begins blank =
    let four = at.order.2 in
    let d : get_or text (to - 1) 0 ≡ 68 =
    ap (λ n. get_or text n 0) (let e : to - 1 ≡ to - 4 + 3 = omega arith in e) ∙ sym (get_drop text (to - 4) 3) ∙ ap (λ xs. get_or xs 3 0) at.word in
    elim (cases_lt to start) [
      | inl past ↦ past
      | inr near ↦ elim (cases_lt start to) [
        | inl low ↦ absurd (let b : is_blank 68 ≡ true = sym (ap is_blank d) ∙ blank (to - 1) (omega arith) (omega arith) in cc)
        | inr high ↦ absurd (let e : start ≡ to = omega arith in let z = begins (omega arith) in let y : get_or text (to - 1) 0 ≡ 10 = ap (λ n. get_or text (n - 1) 0) (sym e) ∙ z in omega (arith, d, y))
      ]
    ]

more_tails : (text : List ℕ) (header : Header) (from to : ℕ) (at : SectionLines text from to) (c : Change) (cs : List Change) (is : IsChange text header c) → to ≤ c.from
    → Sections text header is.section.at.start c.from (sections_text header c.nets ++ patched_from c.to text (map (edit_of header) cs)) (c ∷ cs)
    → Tails text header at.last to (c ∷ cs)
more_tails text header from to at c cs is behind next =
    let last = at.last in
    let there = is.section.at in
    let start = there.start in
    let order = at.order in
    let next_order = there.order in
    let later = later_line text from to c.from start at behind there.begins there.blank.0 in
    let ten = there.begins (omega arith) in
    let k = to - 4 - last in
    let front = part text last start in
    let within : start ≤ length text = omega (arith, next_order) in
    let n = length_part text last start (omega (arith, order)) within in
    let hb = has_blanks front k (omega (arith, n, order))
    (λ j l. ap is_blank (get_part text last start j (omega (arith, order))) ∙ at.blank.1 (last + j) (omega arith) (omega (arith, order))) in
    let word = part text (to - 4) start in
    let d : drop k front ≡ word =
    ap (λ m. drop m front) (let e : k ≡ to - 4 - last = omega arith in e) ∙ drop_part text last (to - 4) start (omega (arith, order)) (omega (arith, order)) in
    let new = sections_text header c.nets ++ patched_from c.to text (map (edit_of header) cs) in
    let blanks = part text start c.from in
    let word_is : word ≡ codes "*END" ++ part text to start =
    ap (take (start - (to - 4))) at.word ∙ ap (λ m. take m (codes "*END" ++ drop to text)) (let e : start - (to - 4) ≡ suc (suc (suc (suc (start - to)))) = omega (arith, order) in e) in
    let text_is : codes "*END" ++ (part text to c.from ++ new) ≡ word ++ (blanks ++ new) =
    ap (λ xs. codes "*END" ++ (xs ++ new)) (part_both text to start c.from (omega arith) (omega (arith, next_order)))
    ∙ ap (λ xs. codes "*END" ++ xs) (append_assoc (part text to start) blanks new)
    ∙ ap (λ xs. xs ++ (blanks ++ new)) (sym word_is) in
    record {
      end = hb.first;
      new_end = hb.bare;
      kept = hb.rest;
      splices = next.splices;
      old =
          ap lines (sym (part_then text last start (omega (arith, order))))
          ∙ both_lines front (drop start text) (λ l. part_ends text last start (omega (arith, order)) within ten)
          ∙ ap (λ ls. ls ++ lines (drop start text)) hb.whole ∙ ap (λ ls. (hb.first ∷ hb.rest) ++ ls) next.old;
      new =
          ap lines text_is
          ∙ both_lines word (blanks ++ new) (λ l. part_ends text (to - 4) start (omega (arith, order)) within ten)
          ∙ ap (λ ls. ls ++ lines (blanks ++ new)) (ap lines (sym d) ∙ hb.behind) ∙ ap (λ ls. (hb.bare ∷ hb.rest) ++ ls) next.is;
      same = sym hb.same;
      heads = next.heads;
      news = next.news;
      are =
          subst (λ before. AreSplices before next.splices)
          (words_front text last start (hb.first ∷ hb.rest) (omega (arith, order)) within (λ l. at.ends) hb.whole) next.are;
    }

-- behind any section
tails : (text : List ℕ) (header : Header) (from to : ℕ) (at : SectionLines text from to) (cs : List Change) → Rise to (length text) (map (edit_of header) cs)
    → All (IsChange text header) cs → Tails text header at.last to cs
tails text header from to at [] rise all = no_tails text header from to at
tails text header from to at (c ∷ cs) rise all =
    let is : IsChange text header c = All-head (IsChange text header) c cs all in
    more_tails text header from to at c cs is rise.0
    (section_then text header c cs is (tails text header c.from c.to is.section.at cs rise.2 (All-tail (IsChange text header) c cs all)))

-- ---- a text

first_change : (text : List ℕ) (header : Header) (c : Change) (cs : List Change) (clear : List ℕ) → clear ≡ without_comments Spef text
    → without_comments Spef (patched text (map (edit_of header) (c ∷ cs))) ≡ patched clear (map (edit_of header) (c ∷ cs))
    → Rise 0 (length clear) (map (edit_of header) (c ∷ cs)) → All (IsChange clear header) (c ∷ cs)
    → HasChanges text (patched text (map (edit_of header) (c ∷ cs))) header (c ∷ cs)
first_change text header c cs clear is cleared rise all =
    let change : IsChange clear header c = All-head (IsChange clear header) c cs all in
    let at = change.section.at in
    let start = at.start in
    let order = at.order in
    let s = section_then clear header c cs change (tails clear header c.from c.to at cs rise.2 (All-tail (IsChange clear header) c cs all)) in
    let front = lines (take start clear) in
    let new = sections_text header c.nets ++ patched_from c.to clear (map (edit_of header) cs) in
    let within : start ≤ length clear = omega (arith, order) in
    let n : length (take start clear) ≡ start = omega (arith, length-take start clear, clamps) in
    let parts : part clear 0 c.from ++ new ≡ take start clear ++ (part clear start c.from ++ new) =
    ap (λ xs. xs ++ new) (part_both clear 0 start c.from (omega arith) (omega (arith, order)))
    ∙ ap (λ m. (take m clear ++ part clear start c.from) ++ new) (let e : start - 0 ≡ start = omega arith in e)
    ∙ append_assoc (take start clear) (part clear start c.from) new in
    record {
      front = front;
      splices = s.splices;
      has = record {
        old_are = ap lines (sym is) ∙ lines_split start clear start (omega arith) within at.begins ∙ ap (λ ls. front ++ ls) s.old;
        new_are =
            ap lines (cleared ∙ parts)
            ∙ both_lines (take start clear) (part clear start c.from ++ new)
            (λ some. ap (λ k. get_or (take start clear) k 0) (let x : length (take start clear) - 1 ≡ start - 1 = omega (arith, n) in x)
            ∙ get_or-take start clear (start - 1) 0 (omega (arith, n)) ∙ at.begins (omega (arith, n)))
            ∙ ap (λ ls. front ++ ls) s.is;
        some = s.some;
        splices_are = subst (λ before. AreSplices before s.splices) (words_are (take start clear)) s.are;
      };
      heads = s.heads ∙ ap (λ t. map (λ (c : Change). length (lines (drop c.from t))) (c ∷ cs)) is;
      nets = s.news;
    }

pub texts_have_changes : TextsHaveChanges
texts_have_changes text header [] may = absurd (let l = may.some in omega (arith, l))
texts_have_changes text header (c ∷ cs) may =
    first_change text header c cs (without_comments Spef text) refl
    (patches_keep text (map (edit_of header) (c ∷ cs)) may.rise may.quiet)
    (subst (λ n. Rise 0 n (map (edit_of header) (c ∷ cs))) (sym (length-without Spef text)) may.rise)
    may.changes_are
