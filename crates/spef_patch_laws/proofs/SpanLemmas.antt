-- Where a section of an index stands in a text.
use Rattle.std.proofs.Common.{◌≡◌, ℕ, zero, suc, ◌+◌, ◌-◌, ◌<◌, ◌≤◌, inl, inr, Bool, true, false, cond, List, [], ◌∷◌, ◌++◌, length, take, drop, get_or, map, codes, refl, sym, ap, ◌∙◌, arith, subst, length-append, length-drop, drop-drop, Option, Some, None, is_some, All}
use Rattle.std.specs.Prelude.{option_map, unwrap_or}
use Rattle.std.proofs.lemmas.Bool.{cases_lt}
use Rattle.std.proofs.lemmas.Bool.Decides.{nat_tests}
use Rattle.std.proofs.lemmas.List.{map-append, take_at, take-append-drop}
use Rattle.std.proofs.Math.Seq.{drop-cons}
use Rattle.std.specs.List.{position}
use Rattle.std.specs.Str.Lines.{lines}
use Rattle.vg_scan.specs.Lines.{Line, words, lines_of, part, is_blank, is_newline}
use Rattle.vg_scan.specs.Printed.{is_solid}
use Rattle.vg_scan.proofs.CutLemmas.{get_part, part_take}
use Rattle.vg_scan.proofs.LineLemmas.{first_at, last_line, newline_found}
use Rattle.vg_scan.proofs.BlankLemmas.{lines_skip}
use Rattle.spef_file.specs.declared.section.Section.{Section}
use Rattle.spef_file.specs.Nets.{is_end, is_head, end_at}
use Rattle.spef_file.specs.NetSpans.{IsSpan, net_lines}
use Rattle.spef_file.proofs.SpanLemmas.{part_skip}
use Rattle.spef_file.proofs.TextLemmas.{get_drop, lines_split}
use Rattle.spef_patch_laws.specs.Runs.{MayBegin, IsInner}
use Rattle.spef_patch_laws.specs.Sections.{AreBlanks, SectionLines, IsSectionAt}
use Rattle.spef_patch_laws.proofs.EndingLemmas.{LastLine, last_line_of, IsWordAtEnd, word_at_end}
use Rattle.spef_patch_laws.proofs.SectionLemmas.{both_lines, length_part, part_ends, part_then, drop_part, words_are}
use Rattle.spef_patch_laws.proofs.SpliceLemmas.{cancel}
use Rattle.spef_patch_laws.proofs.TextLemmas.{some_is}
use Rattle.spef_patch_laws.proofs.WrittenLemmas.{all_none, all_more}

-- ---- lists

pub same_last : {A : Type 0} (xs ys : List A) (x y : A) → xs ++ x ∷ [] ≡ ys ++ y ∷ [] → (xs ≡ ys) × (x ≡ y)
same_last [] [] x y e = (refl, ap (λ l. get_or l 0 x) e)
same_last [] (b ∷ ys) x y e = absurd (let n = ap length e in omega (arith, n, length-append ys (y ∷ [])))
same_last (a ∷ xs) [] x y e = absurd (let n = ap length e in omega (arith, n, length-append xs (x ∷ [])))
same_last (a ∷ xs) (b ∷ ys) x y e =
    let first : a ≡ b = ap (λ l. get_or l 0 a) e in
    let h = same_last xs ys x y (ap (drop 1) e) in
    (λ i. first i ∷ h.0 i, h.1)

-- a front, where what follows it is known
pub front_is : {A : Type 0} (front rest all : List A) (n : ℕ) → all ≡ front ++ rest → drop n all ≡ rest → 0 < length rest → front ≡ take n all
front_is front rest all n e f some =
    let l : length all ≡ length front + length rest = ap length e ∙ length-append front rest in
    let d : length all - n ≡ length rest = sym (length-drop n all) ∙ ap length f in
    let is : n ≡ length front = omega (arith, l, d, some) in
    sym (ap (take n) e ∙ take_at front rest n (sym is))

-- lines whose words are these
record IsMapped (ls : List (List ℕ)) (head : Line) (rest : List Line) : Type 0 where
  first : List ℕ
  others : List (List ℕ)
  is : ls ≡ first ∷ others
  head_is : words first ≡ head
  rest_is : map words others ≡ rest

mapped : (ls : List (List ℕ)) (head : Line) (rest : List Line) → map words ls ≡ head ∷ rest → IsMapped ls head rest
mapped [] head rest e = absurd (cc)
mapped (l ∷ ls) head rest e = record { first = l; others = ls; is = refl; head_is = ap (λ x. get_or x 0 []) e; rest_is = ap (drop 1) e }

-- ---- the end of a net

-- the lines before a net's end, and the end
pub record HasEnd (later : List Line) (k : ℕ) : Type 0 where
  pub inner : All IsInner (take k later)
  pub within : k < length later
  pub end : is_end (get_or later k []) ≡ true

end_step : (line : Line) (later : List Line) (k : ℕ) (a b : Bool) (o : Option ℕ) → is_end line ≡ a → is_head line ≡ b → end_at later ≡ o
    → cond a (Some 0) (cond b None (option_map (λ n. n + 1) o)) ≡ Some k → ((m : ℕ) → end_at later ≡ Some m → HasEnd later m) → HasEnd (line ∷ later) k
end_step line later zero true b o e f g h more = record { inner = all_none IsInner; within = omega arith; end = e }
end_step line later (suc k) true b o e f g h more = absurd (let z : 0 ≡ suc k = cc in omega (arith, z))
end_step line later k false true o e f g h more = absurd (cc)
end_step line later k false false None e f g h more = absurd (cc)
end_step line later k false false (Some m) e f g h more =
    let z : m + 1 ≡ k = cc in
    let n : k ≡ suc m = omega (arith, z) in
    let rest = more m g in
    subst (HasEnd (line ∷ later)) (sym n) (record {
      inner = all_more IsInner line (take m later) (record { no_end = e; no_head = f }) rest.inner;
      within = omega (arith, rest.within);
      end = rest.end;
    })

pub has_end : (later : List Line) (k : ℕ) → end_at later ≡ Some k → HasEnd later k
has_end [] k e = absurd (cc)
has_end (line ∷ later) k e = end_step line later k (is_end line) (is_head line) (end_at later) refl refl refl e (has_end later)

-- ---- a section

no_blank : (b : ℕ) → is_solid b ≡ true → is_blank b ≡ false
no_blank b e = grind (arith, nat_tests)

no_ten : (b : ℕ) → is_solid b ≡ true → b ≡ 10 → ⊥
no_ten b e f = grind (arith, nat_tests)

pub ten_no_blank : (b : ℕ) → b ≡ 10 → is_blank b ≡ true → ⊥
ten_no_blank b e f = grind (arith, nat_tests)

-- where a section of an index stands
pub record IsPlaced (clear : List ℕ) (all : List Line) (section : Section) : Type 0 where
  pub section_at : IsSectionAt clear section.from section.to
  pub front : lines_of (take section_at.at.start clear) ≡ take (section.line - 1) all

one_line : (text : List ℕ) → 0 < length text → ((k : ℕ) → k < length text → get_or text k 0 ≡ 10 → ⊥) → lines text ≡ text ∷ []
one_line text some none = by_place (position is_newline text) refl
  where
    by_place : (o : Option ℕ) → position is_newline text ≡ o → lines text ≡ text ∷ []
    by_place None e = last_line text some e
    by_place (Some n) e =
        let h = first_at is_newline text n e in
        absurd (none n h.1 (ap (λ k. get_or text k 0) (let x : n ≡ n + 1 - 1 = omega arith in x) ∙ newline_found text n e))

module _ (clear : List ℕ) (all : List Line) (s : Section) (span : IsSpan clear all s) (split : all ≡ lines_of clear) where
  abbrev n : ℕ
  n = s.line - 1

  abbrev start : ℕ
  start = span.first.line

  abbrev whole : List ℕ
  whole = part clear start s.to

  low : start ≤ s.from
  low = span.first.order

  whole_len : length whole ≡ s.to - start
  whole_len = length_part clear start s.to (omega (arith, low, span.order)) span.order.1

  whole_some : 0 < length whole
  whole_some = omega (arith, whole_len, low, span.order)

  begins : 0 < start → get_or clear (start - 1) 0 ≡ 10
  begins l = span.first.begins l (omega (arith, low, span.order))

  -- its lines
  whole_lines : lines_of whole ≡ net_lines (drop n all)
  whole_lines = sym (part_skip clear start s.from s.to span.first.blank low span.order.0 span.order.1) ∙ span.net

  solid_end : is_solid (get_or whole (length whole - 1) 0) ≡ true
  solid_end =
      ap (λ k. is_solid (get_or whole k 0)) (let x : length whole - 1 ≡ s.to - 1 - start = omega (arith, whole_len) in x)
      ∙ ap is_solid (get_part clear start s.to (s.to - 1 - start) (omega (arith, low, span.order)))
      ∙ ap (λ k. is_solid (get_or clear k 0)) (let x : start + (s.to - 1 - start) ≡ s.to - 1 = omega (arith, low, span.order) in x)
      ∙ span.last

  -- the last of them
  module _ (found : LastLine whole) where
    abbrev at : ℕ
    at = found.at

    abbrev tail : List ℕ
    tail = drop at whole

    abbrev last : ℕ
    last = start + at

    tail_len : length tail ≡ length whole - at
    tail_len = length-drop at whole

    tail_line : lines tail ≡ tail ∷ []
    tail_line = one_line tail (omega (arith, tail_len, found.within)) (λ k l ten.
        let there : get_or whole (at + k) 0 ≡ 10 = sym (get_drop whole at k) ∙ ten in
        elim (cases_lt (at + k + 1) (length whole)) [
          | inl before ↦ found.alone (at + k) (omega arith) before there
          | inr end ↦ no_ten (get_or whole (length whole - 1) 0) solid_end (ap (λ m. get_or whole m 0) (let x : length whole - 1 ≡ at + k = omega (arith, end, l, tail_len, found.within) in x) ∙ there)
        ])

    abbrev fronts : List (List ℕ)
    fronts = lines (take at whole)

    parted : lines_of whole ≡ map words fronts ++ words tail ∷ []
    parted =
        words_are whole ∙ ap (map words) (lines_split at whole at (omega arith) (omega (arith, found.within)) found.begins ∙ ap (λ ls. fronts ++ ls) tail_line)
        ∙ map-append words fronts (tail ∷ [])

    -- what stands where
    record AreParts : Type 0 where
      head : Line
      later : List Line
      rest : drop n all ≡ head ∷ later
      front : map words fronts ≡ head ∷ take (unwrap_or (end_at later) 0) later
      end : words tail ≡ codes "*END" ∷ []

    parts_by : (lines : List Line) → drop n all ≡ lines → map words fronts ++ words tail ∷ [] ≡ net_lines lines → AreParts
    parts_by [] e f = absurd (let l = ap length f in omega (arith, l, length-append (map words fronts) (words tail ∷ [])))
    parts_by (head ∷ later) e f =
        let h = same_last (map words fronts) (head ∷ take (unwrap_or (end_at later) 0) later) (words tail) (codes "*END" ∷ []) f in
        record { head = head; later = later; rest = e; front = h.0; end = h.1 }

    parts : AreParts
    parts = parts_by (drop n all) refl (sym parted ∙ whole_lines)

    last_word : IsWordAtEnd tail (codes "*END")
    last_word =
        word_at_end tail (codes "*END") parts.end (no_blank (get_or tail (length tail - 1) 0)
        (ap is_solid (get_drop whole at (length tail - 1)) ∙ ap (λ k. is_solid (get_or whole k 0)) (let x : at + (length tail - 1) ≡ length whole - 1 = omega (arith, tail_len, found.within) in x) ∙ solid_end))

    word_len : length tail ≡ last_word.at + 4
    word_len = (let e = ap length last_word.is in omega (arith, e, length-drop last_word.at tail))

    to_is : s.to ≡ last + last_word.at + 4
    to_is = omega (arith, word_len, tail_len, whole_len, low, span.order, found.within)

    part_front : take at whole ≡ part clear start last
    part_front = part_take clear start s.to at (omega (arith, found.within, whole_len))

    front_lines : IsMapped fronts parts.head (take (unwrap_or (end_at parts.later) 0) parts.later)
    front_lines = mapped fronts parts.head (take (unwrap_or (end_at parts.later) 0) parts.later) parts.front

    some_at : 0 < at
    some_at = elim (cases_lt 0 at) [
      | inl l ↦ l
      | inr z ↦ absurd (
          let none : fronts ≡ [] = ap (λ m. lines (take m whole)) (let x : at ≡ 0 = omega (arith, z) in x) in
          let e : [] ≡ front_lines.first ∷ front_lines.others = sym none ∙ front_lines.is in
          cc)
    ]

    ends_ten : get_or clear (last - 1) 0 ≡ 10
    ends_ten =
        ap (λ k. get_or clear k 0) (let x : last - 1 ≡ start + (at - 1) = omega (arith, some_at) in x)
        ∙ sym (get_part clear start s.to (at - 1) (omega (arith, found.within, whole_len)))
        ∙ found.begins some_at

    before : s.from < last
    before = elim (cases_lt s.from last) [
      | inl l ↦ l
      | inr z ↦ absurd (ten_no_blank (get_or clear (last - 1) 0) ends_ten (span.first.blank (last - 1) (omega (arith, some_at)) (omega (arith, some_at, z))))
    ]

    tail_blank : AreBlanks clear last (s.to - 4)
    tail_blank k l m =
        ap (λ j. is_blank (get_or clear j 0)) (let x : k ≡ start + (at + (k - last)) = omega (arith, l) in x)
        ∙ ap is_blank (sym (get_part clear start s.to (at + (k - last)) (omega (arith, l, m, to_is))))
        ∙ ap is_blank (sym (get_drop whole at (k - last)))
        ∙ last_word.blank (k - last) (omega (arith, l, m, to_is))

    end_word : drop (s.to - 4) clear ≡ codes "*END" ++ drop s.to clear
    end_word =
        sym (part_then clear (s.to - 4) s.to (omega arith))
        ∙ ap (λ xs. xs ++ drop s.to clear)
        (sym (drop_part clear start (s.to - 4) s.to (omega (arith, to_is)) (omega arith))
        ∙ ap (λ m. drop m whole) (let x : s.to - 4 - start ≡ at + last_word.at = omega (arith, to_is) in x)
        ∙ sym (drop-drop last_word.at at whole) ∙ last_word.is)

    section_lines : SectionLines clear s.from s.to
    section_lines = record {
      start = start;
      last = last;
      head = front_lines.first;
      inner = front_lines.others;
      order = (low, before, omega (arith, to_is), span.order.1);
      begins = begins;
      ends = ends_ten;
      blank = (span.first.blank, tail_blank);
      word = end_word;
      lines_are = ap lines (sym part_front) ∙ front_lines.is;
    }

    -- the lines from there on, and those before it
    lines_here : lines_of (drop start clear) ≡ drop n all
    lines_here =
        let text = drop start clear in
        sym (lines_skip text (s.from - start) (omega (arith, low, span.order, length-drop start clear))
        (λ j l. ap is_blank (get_drop clear start j) ∙ span.first.blank (start + j) (omega arith) (omega (arith, l))))
        ∙ ap lines_of (drop-drop (s.from - start) start clear ∙ ap (λ m. drop m clear) (let x : start + (s.from - start) ≡ s.from = omega (arith, low) in x)) ∙ span.line

    front_of : lines_of (take start clear) ≡ take n all
    front_of =
        let text = drop start clear in
        front_is (lines_of (take start clear)) (lines_of text) all n
        (split ∙ words_are clear ∙ ap (map words) (lines_split start clear start (omega arith) (omega (arith, low, span.order)) begins) ∙ map-append words (lines (take start clear)) (lines text)
        ∙ (λ i. sym (words_are (take start clear)) i ++ sym (words_are text) i))
        (sym lines_here) (let l = ap length (lines_here ∙ parts.rest) in omega (arith, l))

    module _ (may : MayBegin (take n all)) (opens : is_head parts.head ≡ true) (k : ℕ) (ends : end_at parts.later ≡ Some k) where
      count : unwrap_or (end_at parts.later) 0 ≡ k
      count = ap (λ o. unwrap_or o 0) ends

      end_of : HasEnd parts.later k
      end_of = has_end parts.later k ends

      lines_last : map words (lines (drop last clear)) ≡ drop k parts.later
      lines_last =
          let front = part clear start last in
          let split_at : lines (drop start clear) ≡ lines front ++ lines (drop last clear) =
          ap lines (sym (part_then clear start last (omega (arith, some_at))))
          ∙ both_lines front (drop last clear) (λ l. part_ends clear start last (omega (arith, some_at)) (omega (arith, to_is, span.order)) ends_ten) in
          cancel (parts.head ∷ take k parts.later) (map words (lines (drop last clear))) (drop k parts.later)
          (ap (λ ls. ls ++ map words (lines (drop last clear))) (sym (ap (λ t. map words (lines t)) (sym part_front) ∙ parts.front ∙ ap (λ m. parts.head ∷ take m parts.later) count))
          ∙ sym (map-append words (lines front) (lines (drop last clear)))
          ∙ ap (map words) (sym split_at) ∙ sym (words_are (drop start clear)) ∙ lines_here ∙ parts.rest
          ∙ ap (λ ls. parts.head ∷ ls) (sym (take-append-drop k parts.later)))

      last_lines : IsMapped (lines (drop last clear)) (get_or parts.later k []) (drop (suc k) parts.later)
      last_lines = mapped (lines (drop last clear)) (get_or parts.later k []) (drop (suc k) parts.later) (lines_last ∙ drop-cons parts.later k [] end_of.within)

      placed : IsPlaced clear all s
      unfolding section_lines
      placed = record {
        section_at = record {
          at = section_lines;
          may = subst MayBegin (sym front_of) may;
          head = ap is_head front_lines.head_is ∙ opens;
          inner = subst (All IsInner) (sym (front_lines.rest_is ∙ ap (λ m. take m parts.later) count)) end_of.inner;
          end = last_lines.first;
          later = last_lines.others;
          end_is = last_lines.is;
          ended = ap is_end last_lines.head_is ∙ end_of.end;
        };
        front = front_of;
      }

-- a section of an index stands where it says, if its head is one and has an end
pub span_placed : (clear : List ℕ) (all : List Line) (s : Section) → IsSpan clear all s → all ≡ lines_of clear → MayBegin (take (s.line - 1) all)
    → is_head (get_or all (s.line - 1) []) ≡ true → is_some (end_at (drop s.line all)) ≡ true → IsPlaced clear all s
span_placed clear all s span split may opens ends =
    let found = last_line_of (whole clear all s span split) (whole_some clear all s span split) in
    let p = parts clear all s span split found in
    let k = s.line - 1 in
    let long = length-drop k all in
    let d : get_or all k [] ∷ drop (suc k) all ≡ p.head ∷ p.later =
    sym (drop-cons all k [] (let l = ap length p.rest in omega (arith, l, long))) ∙ p.rest in
    let head : p.head ≡ get_or all k [] = ap (λ l. get_or l 0 []) (sym d) in
    let later : p.later ≡ drop s.line all = ap (drop 1) (sym d) ∙ ap (λ m. drop m all) (let x : suc k ≡ s.line = omega (arith, span.number) in x) in
    let (n, e) = some_is (end_at p.later) (ap (λ ls. is_some (end_at ls)) later ∙ ends) in
    placed clear all s span split found may (ap is_head head ∙ opens) n e
