-- The first line of a text.
use Rattle.std.proofs.Common.{◌≡◌, ℕ, ◌+◌, ◌-◌, ◌<◌, ◌≤◌, Bool, true, false, cond, List, [], ◌∷◌, length, take, drop, get_or, arith, refl, ap, ◌∙◌, suc, Some, None, not, ltb, length-take-le}
use Rattle.std.proofs.lemmas.Bool.Decides.{nat_tests}
use Rattle.std.proofs.lemmas.Grind.{common_steps}
use Rattle.std.proofs.lemmas.Bool.{ltb-true, ltb-false}
use Rattle.std.specs.List.{slice_split, position, position_or_len, before_first, after_first, onto_first}
use Rattle.std.specs.Str.Lines.{lines, lines_of_parts, strip_carriage_return}
use Rattle.std.proofs.lemmas.List.Splits.{slice_split_first}
use Rattle.std.proofs.lemmas.List.Sums.{prefix_len-le-length}
use Rattle.std.proofs.lemmas.List.Quantifiers.{position-Some}
use Rattle.vg_scan.specs.Lines.{is_newline}

-- where a first place is, in terms of the place or the length
cond_some : (b : Bool) (j i : ℕ) → cond b (Some j) None ≡ Some i → (b ≡ true) × (j ≡ i)
cond_some true j i e = (refl, cc)
cond_some false j i e = absurd (cc)

cond_none : (b : Bool) (j : ℕ) → cond b (Some j) None ≡ None → b ≡ false
cond_none true j e = absurd (cc)
cond_none false j e = refl

pub first_at : (p : ℕ → Bool) (xs : List ℕ) (i : ℕ) → position p xs ≡ Some i → (position_or_len p xs ≡ i) × (i < length xs)
first_at p xs i e =
    let h = cond_some (ltb (position_or_len p xs) (length xs)) (position_or_len p xs) i e in
    let l = ltb-true (position_or_len p xs) (length xs) h.0 in
    (h.1, omega (arith, h.1))

pub first_none : (p : ℕ → Bool) (xs : List ℕ) → position p xs ≡ None → position_or_len p xs ≡ length xs
first_none p xs e =
    let h = ltb-false (position_or_len p xs) (length xs) (cond_none (ltb (position_or_len p xs) (length xs)) (position_or_len p xs) e) in
    omega (arith, h, prefix_len-le-length (λ x. not (p x)) xs)

-- no part means no list
pub parts_cons : (p : ℕ → Bool) (xs : List ℕ) → (x : List ℕ) × (more : List (List ℕ)) × (slice_split p xs ≡ x ∷ more)
parts_cons p [] = ([], [], refl)
parts_cons p (b ∷ bs) =
    let (x, more, e) = parts_cons p bs in
    elim (p b) as (λ t. (x : List ℕ) × (more : List (List ℕ)) × (cond t ([] ∷ slice_split p bs) (onto_first b (slice_split p bs)) ≡ x ∷ more)) [
      | true ↦ ([], slice_split p bs, refl)
      | false ↦ (b ∷ x, more, ap (onto_first b) e)
    ]

after_a_part : (a : List ℕ) (p : ℕ → Bool) (xs : List ℕ) → lines_of_parts (a ∷ slice_split p xs) ≡ strip_carriage_return a ∷ lines_of_parts (slice_split p xs)
after_a_part a p xs = let (x, more, e) = parts_cons p xs in rw e refl

-- a line that a newline ends
pub ended_line : (text : List ℕ) (end : ℕ) → position is_newline text ≡ Some end → lines text ≡ strip_carriage_return (take end text) ∷ lines (drop (end + 1) text)
ended_line text end e =
    let h = first_at is_newline text end e in
    let l : position_or_len is_newline text < length text = omega (arith, h.0) in
    let k = ap lines_of_parts (slice_split_first is_newline text 0 l) ∙ after_a_part (before_first is_newline text) is_newline (after_first is_newline text) in
    rw h.0 at k

whole_step : (p : ℕ → Bool) (x : ℕ) (xs : List ℕ) (t : Bool) → (position_or_len p xs ≡ length xs → slice_split p xs ≡ xs ∷ []) → cond (not t) (1 + position_or_len p xs) 0 ≡ suc (length xs)
    → cond t ([] ∷ slice_split p xs) (onto_first x (slice_split p xs)) ≡ (x ∷ xs) ∷ []
whole_step p x xs true ih e = absurd (omega arith)
whole_step p x xs false ih e = ap (onto_first x) (ih (omega arith))

pub split_whole : (p : ℕ → Bool) (xs : List ℕ) → position_or_len p xs ≡ length xs → slice_split p xs ≡ xs ∷ []
split_whole p [] e = refl
split_whole p (x ∷ xs) e = whole_step p x xs (p x) (split_whole p xs) e

lines_one : (x : List ℕ) → 0 < length x → lines_of_parts (x ∷ []) ≡ x ∷ []
lines_one x h = grind (arith, nat_tests)

-- a line that the end of the text ends
pub last_line : (text : List ℕ) → 0 < length text → position is_newline text ≡ None → lines text ≡ text ∷ []
last_line text l e = ap lines_of_parts (split_whole is_newline text (first_none is_newline text e)) ∙ lines_one text l

-- with a carriage return before its end, and without one
pub strip_yes : (text : List ℕ) (end : ℕ) → 0 < end → end ≤ length text → get_or text (end - 1) 0 ≡ 13 → strip_carriage_return (take end text) ≡ take (end - 1) text
strip_yes text end l h e = grind (arith, nat_tests, common_steps, length-take-le)

pub strip_no : (text : List ℕ) (end : ℕ) → end ≤ length text → (0 < end → get_or text (end - 1) 0 ≡ 13 → ⊥) → strip_carriage_return (take end text) ≡ take end text
strip_no text end h n = grind (arith, nat_tests, common_steps, length-take-le)

newline_is : (b : ℕ) → is_newline b ≡ true → b ≡ 10
newline_is b e = grind (arith, nat_tests)

-- a line's end is a newline
pub newline_found : (text : List ℕ) (end : ℕ) → position is_newline text ≡ Some end → get_or text (end + 1 - 1) 0 ≡ 10
newline_found text end e = ap (λ m. get_or text m 0) (let f : end + 1 - 1 ≡ end = omega arith in f) ∙ newline_is (get_or text end 0) (position-Some is_newline text end 0 e).1
