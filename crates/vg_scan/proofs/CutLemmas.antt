-- Texts that end earlier, and texts without the blanks before their first word.
use Rattle.std.proofs.Common.{◌≡◌, ℕ, zero, suc, ◌+◌, ◌-◌, ◌<◌, ◌≤◌, Bool, true, false, cond, not, List, [], ◌∷◌, length, take, drop, get_or, arith, refl, sym, ap, ◌∙◌, Some, None, nat_lt, length-take, length-drop, take-take, take_all}
use Rattle.std.proofs.lemmas.List.{drop_all, drop-take}
use Rattle.std.proofs.lemmas.Bool.{lt-ltb, le-ltb}
use Rattle.std.proofs.lemmas.Grind.{common_steps}
use Rattle.std.proofs.lemmas.List.Sums.{fails_before_first}
use Rattle.std.specs.List.{position, position_or_len}
use Rattle.std.specs.Str.Lines.{lines, strip_carriage_return}
use Rattle.vg_scan.specs.Lines.{is_blank, is_ink, is_newline, words, part}
use Rattle.vg_scan.proofs.LineLemmas.{first_at, ended_line, last_line}
use Rattle.vg_scan.proofs.WordLemmas.{words_skip, words_last}

low_step : (p : ℕ → Bool) (xs : List ℕ) (m : ℕ) (t : Bool) → (m ≤ position_or_len p xs → position_or_len p (take m xs) ≡ length (take m xs))
    → suc m ≤ cond (not t) (1 + position_or_len p xs) 0 → cond (not t) (1 + position_or_len p (take m xs)) 0 ≡ suc (length (take m xs))
low_step p xs m true more h = absurd (omega arith)
low_step p xs m false more h = (let e = more (omega arith) in omega (arith, e))

-- no place is found before the first one
low : (p : ℕ → Bool) (xs : List ℕ) (m : ℕ) → m ≤ position_or_len p xs → position_or_len p (take m xs) ≡ length (take m xs)
low p xs zero h = refl
low p [] (suc m) h = refl
low p (x ∷ xs) (suc m) h = low_step p xs m (p x) (low p xs m) h

high_step : (p : ℕ → Bool) (xs : List ℕ) (m : ℕ) (t : Bool) → (position_or_len p xs < m → position_or_len p (take m xs) ≡ position_or_len p xs)
    → cond (not t) (1 + position_or_len p xs) 0 < suc m → cond (not t) (1 + position_or_len p (take m xs)) 0 ≡ cond (not t) (1 + position_or_len p xs) 0
high_step p xs m true more h = refl
high_step p xs m false more h = (let e = more (omega arith) in omega (arith, e))

-- the first place stays where the text goes on after it
high : (p : ℕ → Bool) (xs : List ℕ) (m : ℕ) → position_or_len p xs < m → position_or_len p (take m xs) ≡ position_or_len p xs
high p xs zero h = absurd (omega arith)
high p [] (suc m) h = refl
high p (x ∷ xs) (suc m) h = high_step p xs m (p x) (high p xs m) h

pub some_at : (p : ℕ → Bool) (xs : List ℕ) (e : ℕ) → position_or_len p xs ≡ e → e < length xs → position p xs ≡ Some e
some_at p xs e h l = (let t : nat_lt (position_or_len p xs) (length xs) ≡ true = lt-ltb (position_or_len p xs) (length xs) (omega (arith, h)) in rw t (ap Some h))

pub none_at : (p : ℕ → Bool) (xs : List ℕ) → position_or_len p xs ≡ length xs → position p xs ≡ None
none_at p xs h = (let t : nat_lt (position_or_len p xs) (length xs) ≡ false = le-ltb (position_or_len p xs) (length xs) (omega (arith, h)) in rw t refl)

-- a line that a newline ends, where the text ends later
pub cut_ended : (text : List ℕ) (e m : ℕ) → position is_newline text ≡ Some e → e + 1 ≤ m → lines (take m text) ≡ strip_carriage_return (take e text) ∷ lines (take (m - (e + 1)) (drop (e + 1) text))
cut_ended text e m found l =
    let h = first_at is_newline text e found in
    let q : position is_newline (take m text) ≡ Some e = some_at is_newline (take m text) e (high is_newline text m (omega (arith, h.0)) ∙ h.0) (omega (arith, length-take m text, h.1)) in
    let d : drop (e + 1) (take m text) ≡ take (m - (e + 1)) (drop (e + 1) text) =
    ap (λ n. drop (e + 1) (take n text)) (let x : m ≡ e + 1 + (m - (e + 1)) = omega arith in x) ∙ drop-take (e + 1) (m - (e + 1)) text in
    ended_line (take m text) e q
    ∙ ap (λ x. strip_carriage_return x ∷ lines (drop (e + 1) (take m text))) (take-take e m text (omega arith))
    ∙ ap (λ x. strip_carriage_return (take e text) ∷ lines x) d

take-none : (n : ℕ) → take {A = ℕ} n [] ≡ []
take-none zero = refl
take-none (suc n) = refl

-- a line that the text's end ends, where the text ends later
pub cut_last : (text : List ℕ) (m : ℕ) → length text ≤ m → lines text ≡ text ∷ [] → lines (take m text) ≡ take (length text) text ∷ lines (take (m - length text) (drop (length text) text))
cut_last text m l e =
    ap lines (take_all m text l) ∙ e
    ∙ ap (λ x. x ∷ lines []) (sym (take_all (length text) text (omega arith)))
    ∙ ap (λ x. take (length text) text ∷ lines x) (sym (ap (take (m - length text)) (drop_all (length text) text (omega arith)) ∙ take-none (m - length text)))

-- a text that ends in its first line
pub within_line : (text : List ℕ) (m : ℕ) → 0 < m → 0 < length text → m ≤ position_or_len is_newline text → lines (take m text) ≡ take m text ∷ []
within_line text m some full l =
    last_line (take m text) (omega (arith, length-take m text)) (none_at is_newline (take m text) (low is_newline text m l))

-- the first word of a text that ends with it
pub word_alone : (line : List ℕ) (from n : ℕ) → position is_ink line ≡ Some from → 0 < n → from + n ≤ length line → n ≤ position_or_len is_blank (drop from line)
    → words (take (from + n) line) ≡ take n (drop from line) ∷ []
word_alone line from n e some full l =
    let h = first_at is_ink line from e in
    let d : drop from (take (from + n) line) ≡ take n (drop from line) = drop-take from n line in
    let w : position_or_len is_ink (take (from + n) line) ≡ from = high is_ink line (from + n) (omega (arith, h.0)) ∙ h.0 in
    words_skip (take (from + n) line) from (omega (arith, w)) ∙ ap words d
    ∙ words_last (take n (drop from line)) (omega (arith, length-take n (drop from line), length-drop from line)) (none_at is_blank (take n (drop from line)) (low is_blank (drop from line) n l))

no_ink : (b : Bool) → not b ≡ false → b ≡ true
no_ink true e = refl
no_ink false e = absurd (cc)

-- only blanks stand before the first word
pub blank_before : (line : List ℕ) (from k : ℕ) → position is_ink line ≡ Some from → k < from → is_blank (get_or line k 0) ≡ true
blank_before line from k e l = let h = first_at is_ink line from e in no_ink (is_blank (get_or line k 0)) (fails_before_first is_ink line k 0 (omega (arith, h.0)))

pub get_part : (bytes : List ℕ) (a b j : ℕ) → j < b - a → get_or (part bytes a b) j 0 ≡ get_or bytes (a + j) 0
get_part bytes a b j l = grind (arith, common_steps)

-- the same in a part of a text
pub blank_in : (bytes : List ℕ) (a b from k : ℕ) → ((j : ℕ) → j < from → is_blank (get_or (part bytes a b) j 0) ≡ true) → from ≤ b - a → a ≤ k → k < a + from → is_blank (get_or bytes k 0) ≡ true
blank_in bytes a b from k all l low high =
    let e : a + (k - a) ≡ k = omega arith in
    ap (λ j. is_blank (get_or bytes j 0)) (sym e) ∙ ap is_blank (sym (get_part bytes a b (k - a) (omega arith))) ∙ all (k - a) (omega arith)

pub part_take : (bytes : List ℕ) (a b to : ℕ) → to ≤ b - a → take to (part bytes a b) ≡ part bytes a (a + to)
part_take bytes a b to l = take-take to (b - a) (drop a bytes) l ∙ ap (λ n. take n (drop a bytes)) (let e : to ≡ a + to - a = omega arith in e)

-- what stands before a place of the rest of a text
pub before_rest : (text : List ℕ) (at n : ℕ) → 0 < n → at + n < length text → (n < length (part text at (length text)) → get_or (part text at (length text)) (n - 1) 0 ≡ 10) → get_or text (at + n - 1) 0 ≡ 10
before_rest text at n some l h =
    let len : length (part text at (length text)) ≡ length text - at = simp (length-take, length-drop) (omega arith) in
    ap (λ m. get_or text m 0) (let f : at + n - 1 ≡ at + (n - 1) = omega arith in f)
    ∙ sym (get_part text at (length text) (n - 1) (omega arith))
    ∙ h (omega (arith, len))
