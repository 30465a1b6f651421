-- A net of a line stands at one place of a text.
use Rattle.std.proofs.Common.{◌≡◌, ℕ, ◌+◌, ◌-◌, ◌<◌, ◌≤◌, inl, inr, Bool, true, false, not, ◌||◌, List, [], ◌∷◌, ◌++◌, length, take, drop, get_or, map, refl, sym, ap, ◌∙◌, arith, subst, length-append, Some, None, Option, All}
use Rattle.std.proofs.lemmas.Bool.{cases_lt}
use Rattle.std.proofs.lemmas.List.{length-map, map-append}
use Rattle.std.proofs.lemmas.List.Elements.{All-head, All-tail}
use Rattle.std.specs.List.{position}
use Rattle.std.specs.Str.Lines.{lines}
use Rattle.vg_scan.specs.Lines.{Line, words, lines_of, part, is_blank, is_newline}
use Rattle.vg_scan.specs.Printed.{is_solid}
use Rattle.vg_scan.proofs.LineLemmas.{last_line, ended_line}
use Rattle.spef_file.specs.declared.section.Section.{Section}
use Rattle.spef_file.specs.Nets.{is_end}
use Rattle.spef_file.specs.NetSpans.{IsSpan}
use Rattle.spef_file.proofs.TextLemmas.{get_drop}
use Rattle.spef_patch_laws.specs.Runs.{IsInner}
use Rattle.spef_patch_laws.specs.Sections.{IsSectionAt}
use Rattle.spef_patch_laws.proofs.SectionLemmas.{both_lines, length_part, part_ends, part_then, words_front, words_are}
use Rattle.spef_patch_laws.proofs.SpanLemmas.{IsPlaced}

-- ---- lines

some_lines : (text : List ℕ) → 0 < length text → 0 < length (lines text)
some_lines text some = by_place (position is_newline text) refl
  where
    by_place : (o : Option ℕ) → position is_newline text ≡ o → 0 < length (lines text)
    by_place None e = subst (λ ls. 0 < length ls) (sym (last_line text some e)) (omega arith)
    by_place (Some n) e = subst (λ ls. 0 < length ls) (sym (ended_line text n e)) (omega arith)

-- fewer lines stand before an earlier line
before_less : (text : List ℕ) (a b : ℕ) → a < b → b ≤ length text → (0 < a → get_or text (a - 1) 0 ≡ 10) → length (lines_of (take a text)) < length (lines_of (take b text))
before_less text a b l m ends =
    let more = lines (part text a b) in
    let some : 0 < length more = some_lines (part text a b) (omega (arith, length_part text a b (omega (arith, l)) m, l)) in
    let n = ap length (words_front text a b more (omega (arith, l)) m ends refl) in
    omega (arith, n, length-append (lines_of (take a text)) (map words more), length-map more words, some)

one_start : (text : List ℕ) (a b : ℕ) → a ≤ length text → b ≤ length text → (0 < a → get_or text (a - 1) 0 ≡ 10) → (0 < b → get_or text (b - 1) 0 ≡ 10)
    → length (lines_of (take a text)) ≡ length (lines_of (take b text)) → a ≡ b
one_start text a b l m f g e = elim (cases_lt a b) [
  | inl less ↦ absurd (let n = before_less text a b less m f in omega (arith, n, e))
  | inr high ↦ elim (cases_lt b a) [
    | inl less ↦ absurd (let n = before_less text b a less l g in omega (arith, n, e))
    | inr low ↦ omega (arith, high, low)
  ]
]

-- the lines before the first end are determined
before_end : (xs ys : List Line) (x y : Line) (more rest : List Line) → All IsInner xs → All IsInner ys → is_end x ≡ true → is_end y ≡ true
    → xs ++ x ∷ more ≡ ys ++ y ∷ rest → length xs ≡ length ys
before_end [] [] x y more rest h k e f g = refl
before_end [] (b ∷ ys) x y more rest h k e f g =
    absurd (let z : true ≡ false = sym e ∙ ap is_end (ap (λ l. get_or l 0 x) g) ∙ (All-head IsInner b ys k).no_end in cc)
before_end (a ∷ xs) [] x y more rest h k e f g =
    absurd (let z : true ≡ false = sym f ∙ ap is_end (sym (ap (λ l. get_or l 0 y) g)) ∙ (All-head IsInner a xs h).no_end in cc)
before_end (a ∷ xs) (b ∷ ys) x y more rest h k e f g =
    omega (arith, before_end xs ys x y more rest (All-tail IsInner a xs h) (All-tail IsInner b ys k) e f (ap (drop 1) g))

-- ---- where a section ends

blank_end : (b : ℕ) → b ≡ 42 → is_blank b ≡ true → ⊥
blank_end b e f = let z : is_blank 42 ≡ true = ap is_blank (sym e) ∙ f in absurd (cc)

module _ (text : List ℕ) (from to : ℕ) (is : IsSectionAt text from to) where
  -- all lines from its first one on
  all_lines : lines_of (drop is.at.start text) ≡ words is.at.head ∷ (map words is.at.inner ++ words is.end ∷ map words is.later)
  all_lines =
      let at = is.at in
      let order = at.order in
      let front = part text at.start at.last in
      words_are (drop at.start text)
      ∙ ap (map words)
      (ap lines (sym (part_then text at.start at.last (omega (arith, order))))
      ∙ both_lines front (drop at.last text) (λ l. part_ends text at.start at.last (omega (arith, order)) (omega (arith, order)) at.ends)
      ∙ (λ i. at.lines_are i ++ is.end_is i))
      ∙ map-append words (at.head ∷ at.inner) (is.end ∷ is.later)

  star : get_or text (to - 4) 0 ≡ 42
  star =
      ap (λ k. get_or text k 0) (let x : to - 4 ≡ to - 4 + 0 = omega arith in x) ∙ sym (get_drop text (to - 4) 0) ∙ ap (λ xs. get_or xs 0 0) is.at.word

  last_count : length (lines_of (take is.at.last text)) ≡ length (lines_of (take is.at.start text)) + 1 + length is.at.inner
  last_count =
      let at = is.at in
      let order = at.order in
      let n = ap length (words_front text at.start at.last (at.head ∷ at.inner) (omega (arith, order)) (omega (arith, order)) at.begins at.lines_are) in
      omega (arith, n, length-append (lines_of (take at.start text)) (map words (at.head ∷ at.inner)), length-map (at.head ∷ at.inner) words)

one_end : (text : List ℕ) (from to at end : ℕ) (p : IsSectionAt text from to) (q : IsSectionAt text at end) → p.at.start ≡ q.at.start → to ≡ end
one_end text from to at end p q start =
    let po = p.at.order in
    let qo = q.at.order in
    let lines_same = sym (all_lines text from to p) ∙ ap (λ n. lines_of (drop n text)) start ∙ all_lines text at end q in
    let inner_same : length (map words p.at.inner) ≡ length (map words q.at.inner) =
    before_end (map words p.at.inner) (map words q.at.inner) (words p.end) (words q.end) (map words p.later) (map words q.later) p.inner q.inner p.ended q.ended (ap (drop 1) lines_same) in
    let last_same : p.at.last ≡ q.at.last =
    one_start text p.at.last q.at.last (omega (arith, po)) (omega (arith, qo)) (λ l. p.at.ends) (λ l. q.at.ends)
    (omega (
      arith,
      last_count text from to p,
      last_count text at end q,
      ap (λ n. length (lines_of (take n text))) start,
      inner_same,
      length-map p.at.inner words,
      length-map q.at.inner words,
    )) in
    elim (cases_lt to end) [
      | inl less ↦ absurd (blank_end (get_or text (to - 4) 0) (star text from to p) (q.at.blank.1 (to - 4) (omega (arith, po, last_same)) (omega (arith, less, po))))
      | inr high ↦ elim (cases_lt end to) [
        | inl less ↦ absurd (blank_end (get_or text (end - 4) 0) (star text at end q) (p.at.blank.1 (end - 4) (omega (arith, qo, last_same)) (omega (arith, less, qo))))
        | inr low ↦ omega (arith, high, low)
      ]
    ]

-- ---- the section of a line

solid_blank : (b : ℕ) → is_solid b ≡ true → is_blank b ≡ true → ⊥
solid_blank b e f = go (is_blank b) (is_newline b) f e
  where
    go : (x y : Bool) → x ≡ true → not (x || y) ≡ true → ⊥
    go true y e f = absurd (cc)
    go false y e f = absurd (cc)

module _ (clear : List ℕ) (all : List Line) (s t : Section) (a : IsSpan clear all s) (b : IsSpan clear all t) (p : IsPlaced clear all s) (q : IsPlaced clear all t)
    (line : s.line ≡ t.line) where
  start_same : p.section_at.at.start ≡ q.section_at.at.start
  start_same =
      let po = p.section_at.at.order in
      let qo = q.section_at.at.order in
      one_start clear p.section_at.at.start q.section_at.at.start (omega (arith, po)) (omega (arith, qo)) p.section_at.at.begins q.section_at.at.begins
      (ap length p.front ∙ ap (λ n. length (take (n - 1) all)) line ∙ sym (ap length q.front))

  pub same_from : s.from ≡ t.from
  same_from =
      let po = p.section_at.at.order in
      let qo = q.section_at.at.order in
      elim (cases_lt s.from t.from) [
        | inl less ↦ absurd (solid_blank (get_or clear s.from 0) a.first.solid (q.section_at.at.blank.0 s.from (omega (arith, po, start_same)) less))
        | inr high ↦ elim (cases_lt t.from s.from) [
          | inl less ↦ absurd (solid_blank (get_or clear t.from 0) b.first.solid (p.section_at.at.blank.0 t.from (omega (arith, qo, start_same)) less))
          | inr low ↦ omega (arith, high, low)
        ]
      ]

  pub same_to : s.to ≡ t.to
  same_to = one_end clear s.from s.to t.from t.to p.section_at q.section_at start_same
