-- The parts of a text, and the words of a line.
use Rattle.std.proofs.Common.{◌≡◌, ℕ, zero, suc, ◌+◌, ◌<◌, ◌≤◌, ◌==◌, ◌||◌, Bool, true, false, cond, List, [], ◌∷◌, length, take, drop, refl, sym, ap, ◌∙◌, arith, Some, None}
use Rattle.std.specs.List.{slice_split, position, list_any}
use Rattle.std.proofs.lemmas.List.Splits.{slice_split_first}
use Rattle.std.proofs.lemmas.List.{length-take}
use Rattle.std.proofs.lemmas.Bool.Decides.{nat_tests}
use Rattle.vg_scan.specs.Lines.{is_blank}
use Rattle.vg_scan.proofs.LineLemmas.{first_at, first_none, split_whole, parts_cons}
use Rattle.vg_cert.specs.Lines.{Line, is_empty, whole_fields, words}
use Rattle.vg_cert.specs.Readings.{put_before}

pub split_once : (p : ℕ → Bool) (xs : List ℕ) (k : ℕ) → position p xs ≡ Some k → slice_split p xs ≡ take k xs ∷ slice_split p (drop (k + 1) xs)
split_once p xs k e =
    let f = first_at p xs k e in
    slice_split_first p xs 0 (omega (arith, f)) ∙ ap (λ n. take n xs ∷ slice_split p (drop (n + 1) xs)) f.0

pub split_never : (p : ℕ → Bool) (xs : List ℕ) → position p xs ≡ None → slice_split p xs ≡ xs ∷ []
split_never p xs e = split_whole p xs (first_none p xs e)

fields_put : (first next : List ℕ) (more : List (List ℕ)) (b : Bool) → is_empty first ≡ false → list_any is_empty (next ∷ more) ≡ b
    → cond (is_empty first || b) [] (first ∷ next ∷ more) ≡ put_before first (cond b [] (next ∷ more))
fields_put first next more true e f = rw e refl
fields_put first next more false e f = rw e refl

put_fields : (fields : List (List ℕ)) (first next : List ℕ) (more : List (List ℕ)) → fields ≡ next ∷ more → is_empty first ≡ false → whole_fields (first ∷ fields) ≡ put_before first (whole_fields fields)
put_fields fields first next more is e =
    ap (λ f. whole_fields (first ∷ f)) is ∙ fields_put first next more (list_any is_empty (next ∷ more)) e refl ∙ sym (ap (λ f. put_before first (whole_fields f)) is)

-- a word that a blank ends
pub words_put : (line first rest : List ℕ) → slice_split is_blank line ≡ first ∷ slice_split is_blank rest → is_empty first ≡ false → words line ≡ put_before first (words rest)
unfolding words
words_put line first rest is e =
    let (next, more, k) = parts_cons is_blank rest in
    ap whole_fields is ∙ put_fields (slice_split is_blank rest) first next more k e

pub words_blank : (line first : List ℕ) (more : List (List ℕ)) → slice_split is_blank line ≡ first ∷ more → is_empty first ≡ true → words line ≡ []
unfolding words
words_blank line first more is e = ap whole_fields is ∙ ap (λ b. cond (b || list_any is_empty more) [] (first ∷ more)) e

one_field : (line : List ℕ) (b : Bool) → is_empty line ≡ b → whole_fields (line ∷ []) ≡ cond b [] (line ∷ [])
one_field line true e = rw e refl
one_field line false e = rw e refl

-- a line without a blank
pub words_one : (line : List ℕ) → position is_blank line ≡ None → words line ≡ cond (is_empty line) [] (line ∷ [])
unfolding words
words_one line e = ap whole_fields (split_never is_blank line e) ∙ one_field line (is_empty line) refl

few : (b : Bool) (line : List ℕ) → length {A = List ℕ} (cond b [] (line ∷ [])) ≤ 1
few true line = omega arith
few false line = omega arith

pub words_few : (line : List ℕ) → position is_blank line ≡ None → length (words line) ≤ 1
words_few line e = rw (words_one line e) (few (is_empty line) line)

pub words_none : (line : List ℕ) → words line ≡ [] → length (words line) ≤ 1
words_none line e = omega (arith, ap length e)

pub not_empty : (xs : List ℕ) → 0 < length xs → is_empty xs ≡ false
not_empty [] l = absurd (omega arith)
not_empty (x ∷ xs) l = grind (arith, nat_tests)

pub no_one : (line : List ℕ) → words line ≡ [] → (length (words line) == 1) ≡ false
no_one line e = ap (λ (l : Line). length l == 1) e

-- a blank stands first
pub words_blank_first : (line : List ℕ) (k : ℕ) → position is_blank line ≡ Some k → k ≡ 0 → words line ≡ []
words_blank_first line k e z = words_blank line (take k line) (slice_split is_blank (drop (k + 1) line)) (split_once is_blank line k e) (ap (λ n. is_empty (take n line)) z)

-- a word that a blank ends, by the blank's place
pub words_at : (line : List ℕ) (k : ℕ) → position is_blank line ≡ Some k → 0 < k → words line ≡ put_before (take k line) (words (drop (k + 1) line))
words_at line k e l =
    let f = first_at is_blank line k e in
    words_put line (take k line) (drop (k + 1) line) (split_once is_blank line k e) (not_empty (take k line) (omega (arith, length-take k line)))

more_not_one : (line : Line) (first : List ℕ) (rest : Line) → line ≡ put_before first rest → (length line == 1) ≡ false
more_not_one line first [] e = ap (λ (l : Line). length l == 1) e
more_not_one line first (next ∷ rest) e = ap (λ (l : Line). length l == 1) e ∙ grind (arith, nat_tests)

pub some_not_one : (line : List ℕ) (k : ℕ) → position is_blank line ≡ Some k → (length (words line) == 1) ≡ false
some_not_one line zero e = no_one line (words_blank_first line 0 e refl)
some_not_one line (suc k) e = more_not_one (words line) (take (suc k) line) (words (drop (suc k + 1) line)) (words_at line (suc k) e (omega arith))
