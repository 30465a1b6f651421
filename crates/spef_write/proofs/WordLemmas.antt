-- Words and lines that were written are read again.
use Rattle.std.proofs.Common.{◌≡◌, ℕ, ◌-◌, ◌<◌, Bool, true, false, not, ◌&&◌, ◌||◌, List, [], ◌∷◌, ◌++◌, refl, ap, ◌∙◌, cond, arith, length, nat_lt, take, filter, All}
use Rattle.std.proofs.lemmas.Bool.{false≢true}
use Rattle.std.proofs.lemmas.Bool.Decides.{nat_tests}
use Rattle.std.proofs.lemmas.List.{append_assoc}
use Rattle.std.proofs.lemmas.List.Elements.{All-head, All-tail}
use Rattle.std.proofs.lemmas.List.Sums.{list_all-from_AllPass}
use Rattle.std.specs.List.{slice_split, onto_first, list_all}
use Rattle.std.specs.Str.Lines.{lines, lines_of_parts, strip_carriage_return}
use Rattle.vg_scan.specs.Lines.{is_blank, is_newline, words}
use Rattle.vg_scan.specs.Printed.{is_solid}
use Rattle.spef_write.specs.Texts.{spaced, ended, lined, IsWord, IsLineText}

pub both_true : (a b : Bool) → (a && b) ≡ true → (a ≡ true) × (b ≡ true)
both_true true b e = (refl, e)
both_true false b e = absurd (false≢true e)

not_of : (a : Bool) → not a ≡ true → a ≡ false
not_of true e = absurd (false≢true e)
not_of false e = refl

-- a part that some byte ends
split_at : (p : ℕ → Bool) (xs : List ℕ) (b : ℕ) (ys : List ℕ) → list_all (λ x. not (p x)) xs ≡ true → p b ≡ true
    → slice_split p (xs ++ b ∷ ys) ≡ xs ∷ slice_split p ys
split_at p [] b ys none here = ap (λ t. cond t ([] ∷ slice_split p ys) (onto_first b (slice_split p ys))) here
split_at p (x ∷ xs) b ys none here =
    let (first, rest) = both_true (not (p x)) (list_all (λ x. not (p x)) xs) none in
    ap (λ t. cond t ([] ∷ slice_split p (xs ++ b ∷ ys)) (onto_first x (slice_split p (xs ++ b ∷ ys)))) (not_of (p x) first)
    ∙ ap (onto_first x) (split_at p xs b ys rest here)

-- a part that the end ends
pub split_last : (p : ℕ → Bool) (xs : List ℕ) → list_all (λ x. not (p x)) xs ≡ true → slice_split p xs ≡ xs ∷ []
split_last p [] none = refl
split_last p (x ∷ xs) none =
    let (first, rest) = both_true (not (p x)) (list_all (λ x. not (p x)) xs) none in
    ap (λ t. cond t ([] ∷ slice_split p xs) (onto_first x (slice_split p xs))) (not_of (p x) first) ∙ ap (onto_first x) (split_last p xs rest)

pub inked : (xs : List ℕ) → list_all is_solid xs ≡ true → list_all (λ b. not (is_blank b)) xs ≡ true
inked [] e = refl
inked (x ∷ xs) e =
    let (first, rest) = both_true (is_solid x) (list_all is_solid xs) e in
    both (not (is_blank x)) (list_all (λ b. not (is_blank b)) xs) (ink (is_blank x) (is_newline x) first) (inked xs rest)
  where
    ink : (a b : Bool) → not (a || b) ≡ true → not a ≡ true
    ink true b e = e
    ink false b e = refl

    both : (a b : Bool) → a ≡ true → b ≡ true → (a && b) ≡ true
    both a b e f = rw (e, f) refl

kept_one : (w : List ℕ) (ws : List (List ℕ)) → 0 < length w → filter (λ v. nat_lt 0 (length v)) (w ∷ ws) ≡ w ∷ filter (λ v. nat_lt 0 (length v)) ws
kept_one [] ws l = absurd (omega arith)
kept_one (b ∷ bs) ws l = grind (arith, nat_tests)

-- a word that a blank ends
pub word_ended : (w rest : List ℕ) → IsWord w → words (w ++ 32 ∷ rest) ≡ w ∷ words rest
unfolding words
word_ended w rest is =
    ap (filter (λ v. nat_lt 0 (length v))) (split_at is_blank w 32 rest (inked w (list_all-from_AllPass is_solid w is.solid)) refl)
    ∙ kept_one w (slice_split is_blank rest) is.some

pub word_last : (w : List ℕ) → IsWord w → words w ≡ w ∷ []
unfolding words
word_last w is =
    ap (filter (λ v. nat_lt 0 (length v))) (split_last is_blank w (inked w (list_all-from_AllPass is_solid w is.solid)))
    ∙ kept_one w [] is.some

no_words : words [] ≡ []
unfolding words
no_words = refl

pub words_again : (ws : List (List ℕ)) → All IsWord ws → words (spaced ws) ≡ ws
words_again [] all = no_words
words_again (w ∷ []) all = word_last w (All-head IsWord w [] all)
words_again (w ∷ next ∷ ws) all =
    word_ended w (spaced (next ∷ ws)) (All-head IsWord w (next ∷ ws) all)
    ∙ ap (λ xs. w ∷ xs) (words_again (next ∷ ws) (All-tail IsWord w (next ∷ ws) all))

-- a part is never the last one of none
after_part : (a : List ℕ) (p : ℕ → Bool) (xs : List ℕ) → lines_of_parts (a ∷ slice_split p xs) ≡ strip_carriage_return a ∷ lines_of_parts (slice_split p xs)
after_part a p xs = let (x, more, e) = parts_cons xs in rw e refl
  where
    parts_cons : (xs : List ℕ) → (x : List ℕ) × (more : List (List ℕ)) × (slice_split p xs ≡ x ∷ more)
    parts_cons [] = ([], [], refl)
    parts_cons (b ∷ bs) =
        let (x, more, e) = parts_cons bs in
        elim (p b) as (λ t. (x : List ℕ) × (more : List (List ℕ)) × (cond t ([] ∷ slice_split p bs) (onto_first b (slice_split p bs)) ≡ x ∷ more)) [
          | true ↦ ([], slice_split p bs, refl)
          | false ↦ (b ∷ x, more, ap (onto_first b) e)
        ]

-- a line that was written
pub line_again : (l rest : List ℕ) → IsLineText l → lines (ended l ++ rest) ≡ l ∷ lines rest
line_again l rest is =
    ap lines (append_assoc l (10 ∷ []) rest)
    ∙ ap lines_of_parts (split_at is_newline l 10 rest (list_all-from_AllPass (λ b. not (is_newline b)) l is.whole) refl)
    ∙ after_part l is_newline rest
    ∙ ap (λ t. cond t (take (length l - 1) l) l ∷ lines rest) is.last

pub lines_again : (ls : List (List ℕ)) (rest : List ℕ) → All IsLineText ls → lines (lined ls ++ rest) ≡ ls ++ lines rest
lines_again [] rest all = refl
lines_again (l ∷ ls) rest all =
    ap lines (append_assoc (ended l) (lined ls) rest)
    ∙ line_again l (lined ls ++ rest) (All-head IsLineText l ls all)
    ∙ ap (λ xs. l ∷ xs) (lines_again ls rest (All-tail IsLineText l ls all))
