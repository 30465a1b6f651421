-- The lines of parts of a text.
use Rattle.std.proofs.Common.{◌≡◌, ℕ, false, zero, suc, ◌+◌, ◌-◌, ◌<◌, ◌≤◌, List, [], ◌∷◌, ◌++◌, map, length, take, drop, get_or, refl, sym, ap, ◌∙◌, arith, subst, Option, Some, None, length-take, length-drop, drop-drop, ◌⊎◌, inl, inr, take-take}
use Rattle.std.proofs.lemmas.List.{drop_all, length-append, length-map, drop-take, drop-map, get_or-take}
use Rattle.std.proofs.lemmas.List.Sums.{fails_before_first}
use Rattle.std.proofs.lemmas.Grind.{common_steps}
use Rattle.std.proofs.lemmas.Bool.{cases_lt}
use Rattle.std.proofs.lemmas.Bool.Decides.{nat_tests}
use Rattle.std.specs.Prelude.{unwrap_or, codes}
use Rattle.std.specs.List.{position, position_or_len}
use Rattle.std.specs.Str.Lines.{lines, strip_carriage_return}
use Rattle.vg_scan.specs.Comments.{without_comments}
use Rattle.vg_scan.specs.declared.comments.Comments.TheVariants.{Spef}
use Rattle.vg_scan.specs.Lines.{is_newline, words, lines_of, part, BeginsLine}
use Rattle.vg_scan.proofs.LineLemmas.{first_at, first_none, ended_line, last_line, newline_found}
use Rattle.vg_scan.proofs.CutLemmas.{cut_ended, get_part}
use Rattle.spef_file.specs.declared.section.Section.{Section}
use Rattle.spef_file.specs.Nets.{end_at}
use Rattle.spef_file.specs.NetSpans.{IsSpan}
use Rattle.spef_file.proofs.PlaceLemmas.{placed}
use Rattle.spef_file.specs.Indexes.{between, lines_after}

found_or_none : (o : Option ℕ) → (o ≡ None) ⊎ ((e : ℕ) × (o ≡ Some e))
found_or_none None = inl refl
found_or_none (Some e) = inr (e, refl)

no_ten : (b : ℕ) → is_newline b ≡ false → b ≡ 10 → ⊥
no_ten b e f = grind (arith, nat_tests)

-- no newline stands before the first
none_before : (text : List ℕ) (k : ℕ) → k < position_or_len is_newline text → get_or text k 0 ≡ 10 → ⊥
none_before text k l = no_ten (get_or text k 0) (fails_before_first is_newline text k 0 l)

pub at_most : (a b : ℕ) → (b < a → ⊥) → a ≤ b
at_most a b n = elim (cases_lt b a) [ inl low ↦ absurd (n low) | inr high ↦ high ]

newline_first : (text : List ℕ) (k : ℕ) → k < length text → get_or text k 0 ≡ 10 → (e : ℕ) × (position is_newline text ≡ Some e) × (e ≤ k)
newline_first text k l h = elim (found_or_none (position is_newline text)) as (λ _. (e : ℕ) × (position is_newline text ≡ Some e) × (e ≤ k)) [
  | inl none ↦ absurd (none_before text k (omega (arith, first_none is_newline text none)) h)
  | inr found ↦ (
    found.0,
    found.1,
    (
        let f = first_at is_newline text found.0 found.1 in
        at_most found.0 k (λ low. none_before text k (omega (arith, f.0)) h)),
  )
]

pub get_drop : (text : List ℕ) (a k : ℕ) → get_or (drop a text) k 0 ≡ get_or text (a + k) 0
get_drop text a k = grind (arith, common_steps)

-- where the lines after the first are those of a front and of a rest, so are all lines
lines_more : (text : List ℕ) (e at : ℕ) → position is_newline text ≡ Some e → e + 1 ≤ at
    → lines (drop (e + 1) text) ≡ lines (take (at - (e + 1)) (drop (e + 1) text)) ++ lines (drop (at - (e + 1)) (drop (e + 1) text))
    → lines text ≡ lines (take at text) ++ lines (drop at text)
lines_more text e at found l more =
    let d : drop (at - (e + 1)) (drop (e + 1) text) ≡ drop at text = drop-drop (at - (e + 1)) (e + 1) text ∙ ap (λ k. drop k text) (let x : e + 1 + (at - (e + 1)) ≡ at = omega arith in x) in
    ended_line text e found
    ∙ ap (λ ls. strip_carriage_return (take e text) ∷ ls) (more ∙ ap (λ t. lines (take (at - (e + 1)) (drop (e + 1) text)) ++ lines t) d)
    ∙ ap (λ ls. ls ++ lines (drop at text)) (sym (cut_ended text e at found l))

-- a text whose front ends with a newline has the front's lines and then the others
pub lines_split : (n : ℕ) (text : List ℕ) (at : ℕ) → at ≤ n → at ≤ length text → (0 < at → get_or text (at - 1) 0 ≡ 10) → lines text ≡ lines (take at text) ++ lines (drop at text)
lines_split n text zero low l h = refl
lines_split zero text (suc at) low l h = absurd (omega arith)
lines_split (suc n) text (suc at) low l h =
    let ten : get_or text at 0 ≡ 10 = ap (λ k. get_or text k 0) (let x : at ≡ suc at - 1 = omega arith in x) ∙ h (omega arith) in
    let (e, found, le) = newline_first text at (omega arith) ten in
    let m = suc at - (e + 1) in
    lines_more text e (suc at) found (omega arith)
    (lines_split n (drop (e + 1) text) m (omega arith) (omega (arith, length-drop (e + 1) text)) (λ some. last_of text e at m le ten refl some))
  where
    last_of : (text : List ℕ) (e at m : ℕ) → e ≤ at → get_or text at 0 ≡ 10 → m ≡ suc at - (e + 1) → 0 < m → get_or (drop (e + 1) text) (m - 1) 0 ≡ 10
    last_of text e at m le ten is some = get_drop text (e + 1) (m - 1) ∙ ap (λ k. get_or text k 0) (let x : e + 1 + (m - 1) ≡ at = omega (arith, is) in x) ∙ ten

-- a text that has no newline, but perhaps one at its end, is one line
pub record IsOneLine (text : List ℕ) : Type 0 where
  pub line : List ℕ
  pub is : lines text ≡ line ∷ []

pub one_line : (text : List ℕ) → 0 < length text → ((k : ℕ) → k + 1 < length text → get_or text k 0 ≡ 10 → ⊥) → IsOneLine text
one_line text some none = elim (found_or_none (position is_newline text)) as (λ _. IsOneLine text) [
  | inl nowhere ↦ record { line = text; is = last_line text some nowhere }
  | inr found ↦ (
      let e = found.0 in
      let at : get_or text e 0 ≡ 10 = ap (λ k. get_or text k 0) (let x : e ≡ e + 1 - 1 = omega arith in x) ∙ newline_found text e found.1 in
      let all : length text ≤ e + 1 = at_most (length text) (e + 1) (λ low. none e low at) in
      record { line = strip_carriage_return (take e text); is = ended_line text e found.1 ∙ ap (λ t. strip_carriage_return (take e text) ∷ lines t) (drop_all (e + 1) text all) })
]

-- where the last line of a text begins
pub record HasLast (text : List ℕ) : Type 0 where
  at : ℕ
  within : at < length text
  begins : 0 < at → get_or text (at - 1) 0 ≡ 10
  one : IsOneLine (drop at text)

pub last_at : (n : ℕ) (text : List ℕ) → length text ≤ n → 0 < length text → HasLast text
last_at zero text l some = absurd (omega arith)
last_at (suc n) text l some = elim (found_or_none (position is_newline text)) as (λ _. HasLast text) [
  | inl nowhere ↦ record { at = 0; within = some; begins = λ h. absurd (omega arith); one = record { line = text; is = last_line text some nowhere } }
  | inr found ↦ (
      let e = found.0 in
      let f = first_at is_newline text e found.1 in
      elim (cases_lt (e + 1) (length text)) as (λ _. HasLast text) [
        | inl more ↦ (
            let rest = drop (e + 1) text in
            let len = length-drop (e + 1) text in
            let h = last_at n rest (omega (arith, len)) (omega (arith, len)) in
            record {
              at = e + 1 + h.at;
              within = omega (arith, len, h.within);
              begins = λ _. begins_after text e h.at found.1 h.begins;
              one = subst IsOneLine (drop-drop h.at (e + 1) text) h.one;
            })
        | inr all ↦ record {
          at = 0;
          within = some;
          begins = λ h. absurd (omega arith);
          one = record { line = strip_carriage_return (take e text); is = ended_line text e found.1 ∙ ap (λ t. strip_carriage_return (take e text) ∷ lines t) (drop_all (e + 1) text all) };
        }
      ])
]
  where
    begins_after : (text : List ℕ) (e at : ℕ) → position is_newline text ≡ Some e → (0 < at → get_or (drop (e + 1) text) (at - 1) 0 ≡ 10) → get_or text (e + 1 + at - 1) 0 ≡ 10
    begins_after text e zero found h = ap (λ k. get_or text k 0) (let x : e + 1 + 0 - 1 ≡ e + 1 - 1 = omega arith in x) ∙ newline_found text e found
    begins_after text e (suc at) found h =
        ap (λ k. get_or text k 0) (let x : e + 1 + suc at - 1 ≡ e + 1 + (suc at - 1) = omega arith in x) ∙ sym (get_drop text (e + 1) (suc at - 1)) ∙ h (omega arith)

some_lines : (text : List ℕ) → 0 < length text → 0 < length (lines text)
some_lines text some = elim (found_or_none (position is_newline text)) as (λ _. 0 < length (lines text)) [
  | inl nowhere ↦ (let e = ap length (last_line text some nowhere) in omega (arith, e))
  | inr found ↦ (let e = ap length (ended_line text found.0 found.1) in omega (arith, e))
]

-- lists

take_front : {A : Type 0} (xs ys : List A) → take (length xs) (xs ++ ys) ≡ xs
take_front [] ys = refl
take_front (x ∷ xs) ys = ap (λ zs. x ∷ zs) (take_front xs ys)

drop_front : {A : Type 0} (xs ys : List A) → drop (length xs) (xs ++ ys) ≡ ys
drop_front [] ys = refl
drop_front (x ∷ xs) ys = drop_front xs ys

-- a front as long as another one is this
same_front : {A : Type 0} (n : ℕ) (xs ys : List A) → length (take n (xs ++ ys)) ≡ length xs → take n (xs ++ ys) ≡ xs
same_front n xs ys e =
    elim (cases_lt n (length xs)) [
      | inl low ↦ absurd (omega (arith, e, length-take n (xs ++ ys), length-append xs ys))
      | inr high ↦ elim (cases_lt (length (xs ++ ys)) n) [
        | inl past ↦ (
            let none : length ys ≡ 0 = omega (arith, e, length-take n (xs ++ ys), length-append xs ys) in
            take_past n (xs ++ ys) (omega arith) ∙ ap (λ zs. xs ++ zs) (empty ys none) ∙ append_nil xs)
        | inr within ↦ (
            let is : n ≡ length xs = omega (arith, e, length-take n (xs ++ ys)) in
            ap (λ k. take k (xs ++ ys)) is ∙ take_front xs ys)
      ]
    ]
  where
    take_past : {A : Type 0} (n : ℕ) (xs : List A) → length xs ≤ n → take n xs ≡ xs
    take_past zero [] l = refl
    take_past zero (x ∷ xs) l = absurd (omega arith)
    take_past (suc n) [] l = refl
    take_past (suc n) (x ∷ xs) l = ap (λ zs. x ∷ zs) (take_past n xs (omega arith))

    empty : {A : Type 0} (xs : List A) → length xs ≡ 0 → xs ≡ []
    empty [] e = refl
    empty (x ∷ xs) e = absurd (omega arith)

    append_nil : {A : Type 0} (xs : List A) → xs ++ [] ≡ xs
    append_nil [] = refl
    append_nil (x ∷ xs) = ap (λ zs. x ∷ zs) (append_nil xs)

pub between_more : (x y : List ℕ) (xs : List (List ℕ)) → between (x ∷ (xs ++ y ∷ [])) ≡ xs
between_more x y xs =
    ap (λ n. drop 1 (take n (x ∷ (xs ++ y ∷ [])))) (let e : length (x ∷ (xs ++ y ∷ [])) - 1 ≡ suc (length xs) = omega (arith, length-append xs (y ∷ [])) in e)
    ∙ take_front xs (y ∷ [])

single : {A : Type 0} (xs : List A) → length xs ≡ 1 → (x : A) × (xs ≡ x ∷ [])
single [] e = absurd (omega arith)
single (x ∷ []) e = (x, refl)
single (x ∷ y ∷ xs) e = absurd (omega arith)

-- the lines of a text that begins at a line of another, by their words
count_lines : (text : List ℕ) → length (lines_of text) ≡ length (lines text)
unfolding lines_of
count_lines text = length-map (lines text) words

words_after : (n : ℕ) (text : List ℕ) → map words (drop n (lines text)) ≡ drop n (lines_of text)
unfolding lines_of
words_after n text = sym (drop-map words n (lines text))

-- the lines after a line whose number is known by their words
lines_from : (text : List ℕ) (at n : ℕ) → at < length text → BeginsLine text at → lines_of (drop at text) ≡ drop n (lines_of text) → drop n (lines text) ≡ lines (drop at text)
lines_from text at n within begins e =
    let split = lines_split at text at (omega arith) (omega arith) (λ some. begins some within) in
    let front = lines (take at text) in
    let rest = lines (drop at text) in
    let some : 0 < length rest = some_lines (drop at text) (omega (arith, length-drop at text)) in
    let counted : length rest ≡ length (lines text) - n = sym (count_lines (drop at text)) ∙ ap length e ∙ length-drop n (lines_of text) ∙ ap (λ m. m - n) (count_lines text) in
    let all : length (lines text) ≡ length front + length rest = ap length split ∙ length-append front rest in
    let is : n ≡ length front = omega (arith, some, counted, all) in
    ap (drop n) split ∙ ap (λ m. drop m (front ++ rest)) is ∙ drop_front front rest

-- a net's part of a text has the net's lines between its first and its last
pub inner_is : (text : List ℕ) (section : Section) → IsSpan (without_comments Spef text) (lines_of (without_comments Spef text)) section
    → between (lines (part (without_comments Spef text) section.from section.to)) ≡ lines_after text section.line
inner_is text section span =
    let clear = without_comments Spef text in
    let place = placed clear (lines_of clear) section span in
    let whole = part clear section.from section.to in
    let later = drop place.next clear in
    let tail = part clear place.next section.to in
    let a = place.next - section.from in
    let len : length whole ≡ section.to - section.from = simp (length-take, length-drop) (omega (arith, span.order)) in
    let tail_len : length tail ≡ section.to - place.next = simp (length-take, length-drop) (omega (arith, span.order, place.within)) in
    let front_is : take a whole ≡ part clear section.from place.next = take-take a (section.to - section.from) (drop section.from clear) (omega (arith, place.within)) in
    let tail_is : drop a whole ≡ tail =
    ap (λ n. drop a (take n (drop section.from clear))) (let x : section.to - section.from ≡ a + (section.to - place.next) = omega (arith, place.within) in x)
    ∙ drop-take a (section.to - place.next) (drop section.from clear)
    ∙ ap (take (section.to - place.next)) (drop-drop a section.from clear ∙ ap (λ n. drop n clear) (let x : section.from + a ≡ place.next = omega (arith, place.within) in x)) in
    let head = single (lines (part clear section.from place.next)) (sym (count_lines (part clear section.from place.next)) ∙ place.head) in
    let last = last_at (length tail) tail (omega arith) (omega (arith, tail_len, place.within)) in
    let inner = lines (take last.at tail) in
    let in_tail : lines tail ≡ inner ++ last.one.line ∷ [] = lines_split (length tail) tail last.at (omega (arith, last.within)) (omega (arith, last.within)) last.begins ∙ ap (λ ls. inner ++ ls) last.one.is in
    let in_whole : lines whole ≡ head.0 ∷ (inner ++ last.one.line ∷ []) =
    lines_split (length whole) whole a (omega (arith, len, place.within)) (omega (arith, len, place.within))
    (λ some. get_part clear section.from section.to (a - 1) (omega (arith, place.within, span.order)) ∙ ap (λ k. get_or clear k 0) (let x : section.from + (a - 1) ≡ place.next - 1 = omega (arith, place.within) in x) ∙ place.begins (omega arith) (omega (arith, place.within, span.order)))
    ∙ ap (λ t. lines t ++ lines (drop a whole)) front_is ∙ ap (λ t. lines (part clear section.from place.next) ++ lines t) tail_is
    ∙ ap (λ ls. ls ++ lines tail) head.1 ∙ ap (λ ls. head.0 ∷ ls) in_tail in
    let others = lines (drop last.at later) in
    let low : last.at < section.to - place.next = omega (arith, tail_len, last.within) in
    let later_len : length later ≡ length clear - place.next = length-drop place.next clear in
    let in_later : lines later ≡ inner ++ others =
    lines_split (length later) later last.at (omega (arith, low, later_len, span.order)) (omega (arith, low, later_len, span.order))
    (λ some. sym (get_or-take (section.to - place.next) later (last.at - 1) 0 (omega arith)) ∙ last.begins some)
    ∙ ap (λ t. lines t ++ others) (sym (take-take last.at (section.to - place.next) later (omega arith))) in
    let n = unwrap_or (end_at (lines_of later)) 0 in
    let long : length inner ≡ length (take n (lines_of later)) =
    (let e = ap length in_tail in
    let f = ap length place.inner in
    omega (arith, e, f, count_lines tail, length-append inner (last.one.line ∷ []), length-append (take n (lines_of later)) ((codes "*END" ∷ []) ∷ []))) in
    let same : take n (inner ++ others) ≡ inner =
    same_front n inner others (omega (arith, long, ap length in_later, count_lines later, length-take n (inner ++ others), length-take n (lines_of later))) in
    let after : drop section.line (lines clear) ≡ lines later = lines_from clear place.next section.line (omega (arith, place.within, span.order)) place.begins place.later in
    let words_are : map words (drop section.line (lines clear)) ≡ lines_of later = words_after section.line clear ∙ sym place.later in
    ap between in_whole ∙ between_more head.0 last.one.line inner ∙ sym same ∙ ap (take n) (sym in_later) ∙ ap (take n) (sym after)
    ∙ ap (λ ws. take (unwrap_or (end_at ws) 0) (drop section.line (lines clear))) (sym words_are)
