-- Where a net's head ends, and the lines after it.
use Rattle.std.proofs.Common.{◌≡◌, ℕ, zero, suc, ◌+◌, ◌-◌, ◌<◌, ◌≤◌, Bool, true, false, List, [], ◌∷◌, take, drop, length, get_or, map, refl, sym, ap, cond, not, ◌∙◌, arith, Option, Some, None, length-drop, length-take, length-append, drop-drop}
use Rattle.std.proofs.lemmas.Int.{clamps}
use Rattle.std.proofs.lemmas.List.{drop-take}
use Rattle.std.specs.List.{position, position_or_len, prefix_len}
use Rattle.std.specs.Prelude.{codes}
use Rattle.std.specs.Str.Lines.{lines}
use Rattle.vg_scan.specs.Lines.{Line, lines_of, words, part, is_newline, BeginsLine}
use Rattle.vg_scan.specs.Printed.{is_solid}
use Rattle.vg_scan.proofs.LineLemmas.{first_at, ended_line, last_line, newline_found}
use Rattle.vg_scan.proofs.CutLemmas.{cut_ended, get_part, some_at}
use Rattle.spef_file.specs.declared.section.Section.{Section}
use Rattle.spef_file.specs.NetSpans.{net_lines, up_to_end, inner_lines, IsSpan}
use Rattle.spef_file.proofs.EndLemmas.{drop_more}

-- where the line after a net's head begins, and the lines from there on
pub record IsPlaced (clear : List ℕ) (all : List Line) (section : Section) : Type 0 where
  pub next : ℕ
  pub begins : BeginsLine clear next
  pub within : (section.from ≤ next) × (next < section.to)
  pub head : length (lines_of (part clear section.from next)) ≡ 1
  pub later : lines_of (drop next clear) ≡ drop section.line all
  pub inner : lines_of (part clear next section.to) ≡ up_to_end (lines_of (drop next clear))

-- a net has two lines at least
two_lines : (all : List Line) → length (net_lines all) ≡ 1 → ⊥
two_lines [] e = absurd (omega (arith, e))
two_lines (head ∷ later) e =
    let two : length (up_to_end later) ≡ length (inner_lines later) + 1 = length-append (inner_lines later) ((codes "*END" ∷ []) ∷ []) in
    absurd (omega (arith, e, two))

one_line : (text : List ℕ) → 0 < length text → position is_newline text ≡ None → length (lines_of text) ≡ 1
unfolding lines_of
one_line text some e = ap (λ ls. length (map words ls)) (last_line text some e)

lines_ended : (text : List ℕ) (e : ℕ) → position is_newline text ≡ Some e → (head : Line) × (lines_of text ≡ head ∷ lines_of (drop (e + 1) text))
unfolding lines_of
lines_ended text e is = (_, ap (map words) (ended_line text e is))

lines_cut : (text : List ℕ) (e : ℕ) → position is_newline text ≡ Some e → length (lines_of (take (e + 1) text)) ≡ 1
unfolding lines_of
lines_cut text e is =
    ap (λ ls. length (map words ls)) (cut_ended text e (e + 1) is (omega arith))
    ∙ ap (λ n. suc (length (map words (lines (take n (drop (e + 1) text)))))) (let z : e + 1 - (e + 1) ≡ 0 = omega arith in z)

prefix_step : (b : Bool) (m n k : ℕ) → (m < k → n ≡ m) → cond b (1 + m) 0 < suc k → cond b (1 + n) 0 ≡ cond b (1 + m) 0
prefix_step true m n k h l = ap (λ x. 1 + x) (h (omega (arith, l)))
prefix_step false m n k h l = refl

prefix_take : (p : ℕ → Bool) (xs : List ℕ) (k : ℕ) → prefix_len p (take k xs) < length (take k xs) → prefix_len p xs ≡ prefix_len p (take k xs)
prefix_take p xs zero l = absurd (omega (arith, l))
prefix_take p [] (suc k) l = absurd (omega (arith, l))
prefix_take p (x ∷ xs) (suc k) l = prefix_step (p x) (prefix_len p (take k xs)) (prefix_len p xs) (length (take k xs)) (prefix_take p xs k) l

-- the first of a part is the first of the text
position_take : (p : ℕ → Bool) (xs : List ℕ) (k e : ℕ) → position p (take k xs) ≡ Some e → position p xs ≡ Some e
position_take p xs k e is =
    let f = first_at p (take k xs) e is in
    let same : position_or_len p xs ≡ e = prefix_take (λ x. not (p x)) xs k (omega (arith, f.0, f.1)) ∙ f.0 in
    some_at p xs e same (omega (arith, f.1, length-take k xs, clamps))

tails_same : {A : Type 0} (x y : A) (xs ys : List A) → x ∷ xs ≡ y ∷ ys → xs ≡ ys
tails_same x y xs ys e = ap (drop 1) e

-- a newline is not solid
no_solid : (b : ℕ) → b ≡ 10 → is_solid b ≡ true → ⊥
no_solid b e s = absurd (let t : is_solid 10 ≡ true = ap is_solid (sym e) ∙ s in cc)

placed_at : (clear : List ℕ) (all : List Line) (section : Section) (e : ℕ) → IsSpan clear all section → position is_newline (part clear section.from section.to) ≡ Some e → IsPlaced clear all section
placed_at clear all section e span at =
    let from = section.from in
    let k = section.to - from in
    let text = drop from clear in
    let whole = take k text in
    let next = from + (e + 1) in
    let long : length whole ≡ k = omega (arith, length-take k text, length-drop from clear, span.order, clamps) in
    let f = first_at is_newline whole e at in
    let there : position is_newline text ≡ Some e = position_take is_newline text k e at in
    let newline : get_or whole e 0 ≡ 10 = ap (λ n. get_or whole n 0) (let z : e ≡ e + 1 - 1 = omega arith in z) ∙ newline_found whole e at in
    let last : e ≡ k - 1 → ⊥ = λ same.
    no_solid (get_or clear (section.to - 1) 0)
    (ap (λ n. get_or clear n 0) (let z : section.to - 1 ≡ from + e = omega (arith, same, span.order) in z) ∙ sym (get_part clear from section.to e (omega (arith, f.1, long))) ∙ newline)
    span.last in
    let short : e + 1 < k = omega (arith, f.1, long, last) in
    let rest : drop (e + 1) text ≡ drop next clear = drop-drop (e + 1) from clear in
    let (head, lines_are) = lines_ended text e there in
    let (first, whole_is) = lines_ended whole e at in
    let later : lines_of text ≡ head ∷ lines_of (drop next clear) = lines_are ∙ ap (λ t. head ∷ lines_of t) rest in
    let cut : drop (e + 1) whole ≡ part clear next section.to =
    ap (λ n. drop (e + 1) (take n text)) (let z : k ≡ e + 1 + (section.to - next) = omega (arith, short) in z)
    ∙ drop-take (e + 1) (section.to - next) text ∙ ap (take (section.to - next)) rest in
    record {
      next = next;
      begins = λ some low.
          ap (λ n. get_or clear n 0) (let z : next - 1 ≡ from + e = omega arith in z) ∙ sym (get_part clear from section.to e (omega (arith, f.1, long))) ∙ newline;
      within = (omega arith, omega (arith, short));
      head = ap (λ n. length (lines_of (take n text))) (let z : next - from ≡ e + 1 = omega arith in z) ∙ lines_cut text e there;
      later =
          drop_more (section.line - 1) all head (lines_of (drop next clear)) (sym later ∙ span.line)
          ∙ ap (λ n. drop n all) (let z : section.line - 1 + 1 ≡ section.line = omega (arith, span.number) in z);
      inner =
          ap lines_of (sym cut)
          ∙ tails_same first head (lines_of (drop (e + 1) whole)) (up_to_end (lines_of (drop next clear))) (sym whole_is ∙ span.net ∙ ap net_lines (sym span.line ∙ later));
    }

placed_by : (clear : List ℕ) (all : List Line) (section : Section) (o : Option ℕ) → position is_newline (part clear section.from section.to) ≡ o → IsSpan clear all section → IsPlaced clear all section
placed_by clear all section (Some e) at span = placed_at clear all section e span at
placed_by clear all section None at span =
    let whole = part clear section.from section.to in
    let long : length whole ≡ section.to - section.from = omega (arith, length-take (section.to - section.from) (drop section.from clear), length-drop section.from clear, span.order, clamps) in
    absurd (two_lines (drop (section.line - 1) all) (sym (ap length span.net) ∙ one_line whole (omega (arith, long, span.order)) at))

-- the line after a net's head
pub placed : (clear : List ℕ) (all : List Line) (section : Section) → IsSpan clear all section → IsPlaced clear all section
placed clear all section span = placed_by clear all section (position is_newline (part clear section.from section.to)) refl span
