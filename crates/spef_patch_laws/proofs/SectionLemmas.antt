-- The lines of a text of which sections are replaced.
use Rattle.std.proofs.Common.{◌≡◌, ℕ, ◌+◌, ◌-◌, ◌<◌, ◌≤◌, true, List, [], ◌∷◌, ◌++◌, length, take, drop, get_or, map, codes, refl, sym, ap, ◌∙◌, arith, subst, append_assoc, length-append, length-take, length-drop, drop-drop}
use Rattle.std.proofs.lemmas.Int.{clamps}
use Rattle.std.proofs.lemmas.List.{map-append, take_at, drop_at, take-append-drop, drop-take, get_or-take}
use Rattle.std.proofs.Math.ListN.{get_or-append}
use Rattle.std.specs.Str.Lines.{lines}
use Rattle.vg_patch.specs.Edits.{patched_from}
use Rattle.vg_scan.specs.Lines.{words, lines_of, part, is_blank}
use Rattle.vg_scan.proofs.CutLemmas.{get_part}
use Rattle.spef_file.specs.Nets.{is_end}
use Rattle.spef_file.specs.declared.header.Header.{Header}
use Rattle.spef_file.proofs.TextLemmas.{get_drop, lines_split}
use Rattle.spef_patch_laws.specs.NetTexts.{NewNet, LinesOfNet, whole, new_text, new_lines, Splice, old_lines, spliced_lines, lines_from, AreSplices}
use Rattle.spef_patch_laws.specs.Sections.{sections_text, Change, edit_of, written_text, IsChange}
use Rattle.spef_patch_laws.proofs.BlankLemmas.{has_blanks}
use Rattle.spef_patch_laws.proofs.PatchLemmas.{take_part}
use Rattle.spef_patch_laws.proofs.WrittenLemmas.{written, written-texts, written-some, written-new, written-lines, with_head, with_head-texts, with_head-some, with_head-lines, with_head-new}

-- ---- texts in two parts

-- a text whose front ends with a newline
pub both_lines : (xs ys : List ℕ) → (0 < length xs → get_or xs (length xs - 1) 0 ≡ 10) → lines (xs ++ ys) ≡ lines xs ++ lines ys
both_lines xs ys ends =
    lines_split (length xs) (xs ++ ys) (length xs) (omega arith) (omega (arith, length-append xs ys)) (λ some. get_or-append xs ys 0 (length xs - 1) (omega arith) ∙ ends some)
    ∙ ap (λ t. lines t ++ lines (drop (length xs) (xs ++ ys))) (take_at xs ys (length xs) refl)
    ∙ ap (λ t. lines xs ++ lines t) (drop_at xs ys (length xs) refl)

pub length_part : (text : List ℕ) (a b : ℕ) → a ≤ b → b ≤ length text → length (part text a b) ≡ b - a
length_part text a b l m = omega (arith, length-take (b - a) (drop a text), length-drop a text, clamps)

pub part_ends : (text : List ℕ) (a b : ℕ) → a < b → b ≤ length text → get_or text (b - 1) 0 ≡ 10 → get_or (part text a b) (length (part text a b) - 1) 0 ≡ 10
part_ends text a b l m e =
    let n = length_part text a b (omega arith) m in
    ap (λ k. get_or (part text a b) k 0) (let x : length (part text a b) - 1 ≡ b - 1 - a = omega (arith, n) in x)
    ∙ get_part text a b (b - 1 - a) (omega arith)
    ∙ ap (λ k. get_or text k 0) (let x : a + (b - 1 - a) ≡ b - 1 = omega arith in x) ∙ e

pub part_then : (text : List ℕ) (a b : ℕ) → a ≤ b → part text a b ++ drop b text ≡ drop a text
part_then text a b l =
    ap (λ rest. part text a b ++ rest) (sym (drop-drop (b - a) a text ∙ ap (λ n. drop n text) (let e : a + (b - a) ≡ b = omega arith in e)))
    ∙ take-append-drop (b - a) (drop a text)

pub part_both : (text : List ℕ) (a b c : ℕ) → a ≤ b → b ≤ c → part text a c ≡ part text a b ++ part text b c
part_both text a b c l m =
    take_part (drop a text) (b - a) (c - a) (omega arith)
    ∙ ap (λ rest. part text a b ++ rest)
    (ap (λ t. take (c - a - (b - a)) t) (drop-drop (b - a) a text ∙ ap (λ n. drop n text) (let e : a + (b - a) ≡ b = omega arith in e))
    ∙ ap (λ n. take n (drop b text)) (let e : c - a - (b - a) ≡ c - b = omega arith in e))

pub drop_part : (text : List ℕ) (a b c : ℕ) → a ≤ b → b ≤ c → drop (b - a) (part text a c) ≡ part text b c
drop_part text a b c l m =
    ap (λ n. drop (b - a) (take n (drop a text))) (let e : c - a ≡ b - a + (c - b) = omega arith in e)
    ∙ drop-take (b - a) (c - b) (drop a text)
    ∙ ap (take (c - b)) (drop-drop (b - a) a text ∙ ap (λ n. drop n text) (let e : a + (b - a) ≡ b = omega arith in e))

-- the lines of a front and of what follows it up to a later line
front_lines : (text : List ℕ) (a b : ℕ) → a ≤ b → b ≤ length text → (0 < a → get_or text (a - 1) 0 ≡ 10) → lines (take b text) ≡ lines (take a text) ++ lines (part text a b)
front_lines text a b l m ends =
    let n : length (take a text) ≡ a = omega (arith, length-take a text, clamps) in
    ap lines (take_part text a b l)
    ∙ both_lines (take a text) (part text a b)
    (λ some. ap (λ k. get_or (take a text) k 0) (let x : length (take a text) - 1 ≡ a - 1 = omega (arith, n) in x)
    ∙ get_or-take a text (a - 1) 0 (omega (arith, n)) ∙ ends (omega (arith, n)))

pub words_front : (text : List ℕ) (a b : ℕ) (more : List (List ℕ)) → a ≤ b → b ≤ length text → (0 < a → get_or text (a - 1) 0 ≡ 10) → lines (part text a b) ≡ more
    → lines_of (take b text) ≡ lines_of (take a text) ++ map words more
unfolding lines_of
words_front text a b more l m ends e = ap (map words) (front_lines text a b l m ends ∙ ap (λ ls. lines (take a text) ++ ls) e) ∙ map-append words (lines (take a text)) more

pub words_are : (text : List ℕ) → lines_of text ≡ map words (lines text)
unfolding lines_of
words_are text = refl

-- ---- what follows a section

pub record Tails (text : List ℕ) (header : Header) (last to : ℕ) (cs : List Change) : Type 0 where
  pub end : List ℕ
  pub new_end : List ℕ
  pub kept : List (List ℕ)
  pub splices : List Splice
  pub old : lines (drop last text) ≡ end ∷ (kept ++ old_lines splices)
  pub new : lines (codes "*END" ++ patched_from to text (map (edit_of header) cs)) ≡ new_end ∷ (kept ++ spliced_lines splices)
  pub same : words new_end ≡ words end
  pub heads : lines_from splices ≡ map (λ (c : Change). length (lines (drop c.from text))) cs
  pub news : map (λ s. map new_text s.new) splices ≡ map (λ c. map (written_text header) c.nets) cs
  pub are : AreSplices (lines_of (take last text) ++ map words (end ∷ kept)) splices

-- a section, with what follows it
pub record Sections (text : List ℕ) (header : Header) (start from : ℕ) (new : List ℕ) (cs : List Change) : Type 0 where
  pub splices : List Splice
  pub some : 0 < length splices
  pub old : lines (drop start text) ≡ old_lines splices
  pub is : lines (part text start from ++ new) ≡ spliced_lines splices
  pub heads : lines_from splices ≡ map (λ (c : Change). length (lines (drop c.from text))) cs
  pub news : map (λ s. map new_text s.new) splices ≡ map (λ c. map (written_text header) c.nets) cs
  pub are : AreSplices (lines_of (take start text)) splices

some_text : (text : List ℕ) (x : List ℕ) (rest : List (List ℕ)) → lines text ≡ x ∷ rest → 0 < length text
some_text [] x rest e = absurd (cc)
some_text (b ∷ text) x rest e = omega arith

first_of : (x y : List ℕ) (xs ys : List (List ℕ)) → x ∷ xs ≡ y ∷ ys → x ≡ y
first_of x y xs ys e = ap (λ ls. get_or ls 0 []) e

some_new : (nets : List NewNet) (more : List (List ℕ)) → 0 < length nets → (x : List ℕ) × (rest : List (List ℕ)) × (new_lines nets ++ more ≡ x ∷ rest)
some_new [] more l = absurd (omega arith)
some_new (net ∷ nets) more l = (net.lines.head, ((net.lines.inner ++ net.lines.end ∷ []) ++ new_lines nets) ++ more, refl)

-- blanks before a head make no line
same_count : (text : List ℕ) (start from : ℕ) → start ≤ from → from < length text → ((k : ℕ) → start ≤ k → k < from → is_blank (get_or text k 0) ≡ true)
    → length (lines (drop start text)) ≡ length (lines (drop from text))
same_count text start from l within blank =
    let k = from - start in
    let hb = has_blanks (drop start text) k (omega (arith, l, within, length-drop start text)) (λ j m. ap is_blank (get_drop text start j) ∙ blank (start + j) (omega arith) (omega (arith, l, m))) in
    let d : drop k (drop start text) ≡ drop from text = drop-drop k start text ∙ ap (λ n. drop n text) (let e : start + k ≡ from = omega (arith, l) in e) in
    ap length hb.whole ∙ ap length (sym hb.behind) ∙ ap (λ t. length (lines t)) d

pub section_then : (text : List ℕ) (header : Header) (c : Change) (cs : List Change) (is : IsChange text header c) → Tails text header is.section.at.last c.to cs
    → Sections text header is.section.at.start c.from (sections_text header c.nets ++ patched_from c.to text (map (edit_of header) cs)) (c ∷ cs)
section_then text header c cs is tails =
    let s = is.section in
    let at = s.at in
    let start = at.start in
    let last = at.last in
    let rest = patched_from c.to text (map (edit_of header) cs) in
    let new = sections_text header c.nets ++ rest in
    let blanks = part text start c.from in
    let k = c.from - start in
    let more = tails.kept ++ spliced_lines tails.splices in
    let nets = written header c.nets tails.new_end in
    let old_end : is_end (words tails.end) ≡ true = ap (λ l. is_end (words l)) (first_of tails.end s.end (tails.kept ++ old_lines tails.splices) s.later (sym tails.old ∙ s.end_is)) ∙ s.ended in
    let new_end : is_end (words tails.new_end) ≡ true = ap is_end tails.same ∙ old_end in
    let new_is : lines new ≡ new_lines nets ++ more = written-lines header c.nets rest tails.new_end more is.some is.written tails.new in
    let (x, xs, first) = some_new nets more (written-some header c.nets tails.new_end is.some) in
    let some = some_text new x xs (new_is ∙ first) in
    let n : length blanks ≡ k = length_part text start c.from at.order.0 (omega (arith, at.order)) in
    let hb = has_blanks (blanks ++ new) k (omega (arith, n, some, length-append blanks new))
    (λ j l. ap is_blank (get_or-append blanks new 0 j (omega (arith, n)) ∙ get_part text start c.from j (omega arith)) ∙ at.blank.0 (start + j) (omega arith) (omega arith)) in
    let bare : hb.bare ∷ hb.rest ≡ new_lines nets ++ more = sym hb.behind ∙ ap lines (drop_at blanks new k n) ∙ new_is in
    let heads = with_head hb.first nets in
    let old_net : LinesOfNet = record { head = at.head; inner = at.inner; end = tails.end } in
    let splice : Splice = record { old = old_net; new = heads; kept = tails.kept } in
    let before = lines_of (take start text) in
    let old : lines (drop start text) ≡ old_lines (splice ∷ tails.splices) =
    ap lines (sym (part_then text start last (omega (arith, at.order))))
    ∙ both_lines (part text start last) (drop last text) (λ l. part_ends text start last (omega (arith, at.order)) (omega (arith, at.order)) at.ends)
    ∙ ap (λ ls. ls ++ lines (drop last text)) at.lines_are
    ∙ ap (λ ls. (at.head ∷ at.inner) ++ ls) tails.old
    ∙ sym (append_assoc (at.head ∷ at.inner) (tails.end ∷ []) (tails.kept ++ old_lines tails.splices))
    ∙ sym (append_assoc (whole old_net) tails.kept (old_lines tails.splices)) in
    let count : length (old_lines (splice ∷ tails.splices)) ≡ length (lines (drop c.from text)) =
    ap length (sym old) ∙ same_count text start c.from at.order.0 (omega (arith, at.order)) at.blank.0 in
    record {
      splices = splice ∷ tails.splices;
      some = omega arith;
      old = old;
      heads = λ i. count i ∷ tails.heads i;
      is =
          hb.whole
          ∙ with_head-lines hb.first hb.bare nets hb.rest more (written-some header c.nets tails.new_end is.some) bare
          ∙ sym (append_assoc (new_lines heads) tails.kept (spliced_lines tails.splices));
      news = λ i. ((with_head-texts hb.first nets ∙ written-texts header c.nets tails.new_end) i) ∷ (tails.news i);
      are = (
        record {
          may = s.may;
          old = record { head = s.head; inner = s.inner; end = old_end };
          new = with_head-new before hb.first hb.bare nets hb.rest more bare hb.same (written-new before header c.nets tails.new_end is.chars is.written new_end);
          some = with_head-some hb.first nets (written-some header c.nets tails.new_end is.some);
        },
        subst (λ front. AreSplices front tails.splices)
            (ap (λ front. front ++ map words (tails.end ∷ tails.kept)) (words_front text start last (at.head ∷ at.inner) (omega (arith, at.order)) (omega (arith, at.order)) at.begins at.lines_are)
            ∙ append_assoc before (map words (at.head ∷ at.inner)) (map words (tails.end ∷ tails.kept))
            ∙ ap (λ ls. before ++ ls)
            (sym (map-append words (at.head ∷ at.inner) (tails.end ∷ tails.kept))
            ∙ ap (map words) (sym (append_assoc (at.head ∷ at.inner) (tails.end ∷ []) tails.kept))))
            tails.are,
      );
    }
