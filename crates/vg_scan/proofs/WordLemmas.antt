-- The first word of a line.
use Rattle.std.proofs.Common.{◌≡◌, ℕ, ◌+◌, ◌<◌, ◌≤◌, Bool, true, false, cond, not, List, [], ◌∷◌, length, take, drop, get_or, arith, refl, sym, ap, ◌∙◌, zero, suc, None, Some, nat_lt, ◌&&◌, add-one, length-take, length-drop, drop-cons, drop-drop, inl, inr}
use Rattle.std.proofs.lemmas.List.{drop_all}
use Rattle.std.proofs.lemmas.List.Quantifiers.{position-Some}
use Rattle.std.proofs.lemmas.Bool.{cases_lt}
use Rattle.std.proofs.lemmas.Grind.{common_steps}
use Rattle.std.specs.List.{slice_split, position_or_len, before_first, after_first, filter, position, list_all, AllPass}
use Rattle.std.proofs.lemmas.List.Sums.{AllPass-from_list_all}
use Rattle.std.proofs.lemmas.List.Splits.{slice_split_first, slice_split-cons_yes}
use Rattle.vg_scan.proofs.LineLemmas.{split_whole, first_none, first_at}
use Rattle.std.proofs.lemmas.Bool.Decides.{nat_tests}
use Rattle.vg_scan.specs.Lines.{is_blank, is_ink, is_low, words}

pub words_blank : (b : ℕ) (bs : List ℕ) → is_blank b ≡ true → words (b ∷ bs) ≡ words bs
unfolding words
words_blank b bs e = rw (slice_split-cons_yes is_blank b bs e) refl

pub words_none : words [] ≡ []
unfolding words
words_none = refl

skip_step : (b : ℕ) (bs : List ℕ) (k : ℕ) (t : Bool) → is_blank b ≡ t → (k ≤ position_or_len is_ink bs → words bs ≡ words (drop k bs))
    → suc k ≤ cond (not (not t)) (1 + position_or_len is_ink bs) 0 → words (b ∷ bs) ≡ words (drop k bs)
skip_step b bs k true e ih h = words_blank b bs e ∙ ih (omega arith)
skip_step b bs k false e ih h = absurd (omega arith)

-- blanks before a word say nothing
pub words_skip : (line : List ℕ) (k : ℕ) → k ≤ position_or_len is_ink line → words line ≡ words (drop k line)
words_skip line zero h = refl
words_skip [] (suc k) h = refl
words_skip (b ∷ bs) (suc k) h = skip_step b bs k (is_blank b) refl (words_skip bs k) h

kept_one : (w : List ℕ) (ws : List (List ℕ)) → 0 < length w → filter (λ v. nat_lt 0 (length v)) (w ∷ ws) ≡ w ∷ filter (λ v. nat_lt 0 (length v)) ws
kept_one [] ws l = absurd (omega arith)
kept_one (b ∷ bs) ws l = grind (arith, nat_tests)

-- a word that the end of the line ends
pub words_last : (line : List ℕ) → 0 < length line → position is_blank line ≡ None → words line ≡ line ∷ []
unfolding words
words_last line l e = rw (split_whole is_blank line (first_none is_blank line e)) (kept_one line [] l)

-- a word that a blank ends
pub words_first : (line : List ℕ) (n : ℕ) → 0 < n → position is_blank line ≡ Some n → words line ≡ take n line ∷ words (drop n line)
unfolding words
words_first line n l e =
    let h = first_at is_blank line n e in
    let at : position_or_len is_blank line < length line = omega (arith, h.0) in
    let s = ap (filter (λ v. nat_lt 0 (length v))) (slice_split_first is_blank line 0 at) in
    let k : 0 < length (before_first is_blank line) = omega (arith, length-take (position_or_len is_blank line) line, h.0) in
    let t = s ∙ kept_one (before_first is_blank line) (slice_split is_blank (after_first is_blank line)) k in
    let d : drop n line ≡ get_or line n 0 ∷ drop (suc n) line = drop-cons line n 0 h.1 in
    let b : is_blank (get_or line n 0) ≡ true = (position-Some is_blank line n 0 e).1 in
    let w : words (drop n line) ≡ words (drop (suc n) line) = ap words d ∙ words_blank (get_or line n 0) (drop (suc n) line) b in
    let r : words line ≡ take n line ∷ words (drop (n + 1) line) = rw h.0 at t in
    r ∙ ap (λ m. take n line ∷ words (drop m line)) (add-one n) ∙ ap (λ ws. take n line ∷ ws) (sym w)

ink_then_blank : (b : Bool) → not b ≡ true → b ≡ true → ⊥
ink_then_blank true e f = cc
ink_then_blank false e f = cc

-- the first word of a line, by its places
pub word_some : (line : List ℕ) (from n : ℕ) → position is_ink line ≡ Some from → position is_blank (drop from line) ≡ Some n
    → (words line ≡ take n (drop from line) ∷ words (drop (from + n) line)) × (0 < n) × (from + n ≤ length line)
word_some line from n e f =
    let h = first_at is_ink line from e in
    let k = first_at is_blank (drop from line) n f in
    let ink : is_ink (get_or line from 0) ≡ true = (position-Some is_ink line from 0 e).1 in
    let blank : is_blank (get_or (drop from line) n 0) ≡ true = (position-Some is_blank (drop from line) n 0 f).1 in
    let l : 0 < n = elim (cases_lt 0 n) [ inl l ↦ l | inr z ↦ absurd (let z0 : n ≡ 0 = omega arith in ink_then_blank (is_blank (get_or line from 0)) ink (let g : get_or (drop from line) n 0 ≡ get_or line from 0 = rw z0 (grind (arith, common_steps)) in rw g at blank)) ] in
    (words_skip line from (omega (arith, h.0)) ∙ words_first (drop from line) n l f ∙ ap (λ m. take n (drop from line) ∷ words m) (drop-drop n from line), l, omega (arith, k.1, length-drop from line))

pub word_none : (line : List ℕ) (from : ℕ) → position is_ink line ≡ Some from → position is_blank (drop from line) ≡ None → words line ≡ drop from line ∷ []
word_none line from e f =
    let h = first_at is_ink line from e in
    words_skip line from (omega (arith, h.0)) ∙ words_last (drop from line) (omega (arith, h.1, length-drop from line)) f

pub no_word : (line : List ℕ) → position is_ink line ≡ None → words line ≡ []
no_word line e =
    let h = first_none is_ink line e in
    words_skip line (length line) (omega (arith, h)) ∙ ap words (drop_all (length line) line (omega arith)) ∙ words_none

blank_step : (b : ℕ) (bs : List ℕ) (t : Bool) → is_blank b ≡ t → (position_or_len is_ink bs ≡ length bs → list_all is_blank bs ≡ true)
    → cond (not (not t)) (1 + position_or_len is_ink bs) 0 ≡ suc (length bs) → (t && list_all is_blank bs) ≡ true
blank_step b bs true e earlier h = earlier (omega arith)
blank_step b bs false e earlier h = absurd (omega arith)

blanks : (line : List ℕ) → position_or_len is_ink line ≡ length line → list_all is_blank line ≡ true
blanks [] h = refl
blanks (b ∷ bs) h = blank_step b bs (is_blank b) refl (blanks bs) h

-- a line without ink has only blanks, and one with ink has not
pub all_blank : (line : List ℕ) → position_or_len is_ink line ≡ length line → AllPass is_blank line
all_blank line h = AllPass-from_list_all is_blank line (blanks line h)

pub not_all_blank : (line : List ℕ) (from : ℕ) → position is_ink line ≡ Some from → AllPass is_blank line → ⊥
not_all_blank line from e all =
    let at = position-Some is_ink line from 0 e in
    ink_then_blank (is_blank (get_or line from 0)) at.1 (all from 0 at.0)

-- no blank is above the space
blank_low : (b : ℕ) → is_low b ≡ false → is_blank b ≡ false
blank_low b e = grind (arith, nat_tests)

high_step : (b : ℕ) (bs : List ℕ) (k : ℕ) (t : Bool) → is_low b ≡ t → (k ≤ position_or_len is_low bs → position_or_len is_blank bs ≡ k + position_or_len is_blank (drop k bs))
    → suc k ≤ cond (not t) (1 + position_or_len is_low bs) 0 → position_or_len is_blank (b ∷ bs) ≡ suc k + position_or_len is_blank (drop k bs)
high_step b bs k true e later h = absurd (omega (arith, h))
high_step b bs k false e later h = rw (blank_low b e) (omega (arith, later (omega (arith, h))))

pub skip_high : (line : List ℕ) (k : ℕ) → k ≤ position_or_len is_low line → position_or_len is_blank line ≡ k + position_or_len is_blank (drop k line)
skip_high line zero h = omega arith
skip_high [] (suc k) h = absurd (omega (arith, h))
skip_high (b ∷ bs) (suc k) h = high_step b bs k (is_low b) refl (skip_high bs k) h
