-- The next word of a line, by where the first blank and the first other byte stand.
use Rattle.std.proofs.Common.{◌≡◌, ℕ, suc, ◌+◌, ◌-◌, ◌<◌, ◌≤◌, Bool, true, false, not, List, [], ◌∷◌, length, take, drop, get_or, arith, refl, sym, ap, ◌∙◌, Option, None, Some, add-one, take_all, drop-cons, drop-drop, length-drop, length-take, take-take, ◌++◌, append_assoc}
use Rattle.std.proofs.lemmas.List.{drop_all, drop-take, map-append}
use Rattle.std.proofs.lemmas.List.Quantifiers.{position-Some}
use Rattle.std.proofs.lemmas.Grind.{common_steps}
use Rattle.std.specs.List.{position_or_len, position}
use Rattle.vg_scan.specs.Lines.{is_blank, is_ink, is_low, words, part}
use Rattle.vg_scan.specs.Spans.{part_at, words_at}
use Rattle.vg_scan.specs.declared.lines.Span.{Span}
use Rattle.vg_scan.proofs.LineLemmas.{first_none, first_at}
use Rattle.vg_scan.proofs.WordLemmas.{words_skip, words_first, words_last, words_none, skip_high}

-- the first such byte from a place on, one byte later
stepped : (p : ℕ → Bool) (b : ℕ) (bs : List ℕ) (t : Bool) → p b ≡ t → t ≡ false → position_or_len p (b ∷ bs) ≡ position_or_len p bs + 1
stepped p b bs true e f = absurd (cc)
stepped p b bs false e f = rw e (omega arith)

pub one_later : (p : ℕ → Bool) (line : List ℕ) (at : ℕ) → at < length line → p (get_or line at 0) ≡ false
    → at + 1 + position_or_len p (drop (at + 1) line) ≡ at + position_or_len p (drop at line)
one_later p line at h e =
    let d : drop at line ≡ get_or line at 0 ∷ drop (suc at) line = drop-cons line at 0 h in
    let s = stepped p (get_or line at 0) (drop (suc at) line) (p (get_or line at 0)) refl e in
    let n : position_or_len p (drop at line) ≡ position_or_len p (drop (suc at) line) + 1 = ap (position_or_len p) d ∙ s in
    let m : position_or_len p (drop (at + 1) line) ≡ position_or_len p (drop (suc at) line) = ap (λ k. position_or_len p (drop k line)) (add-one at) in
    omega (arith, n, m)

-- such a byte stands there, or the text ends
pub none_later : (p : ℕ → Bool) (line : List ℕ) (at : ℕ) → at < length line → p (get_or line at 0) ≡ true → position_or_len p (drop at line) ≡ 0
none_later p line at h e = ap (position_or_len p) (drop-cons line at 0 h) ∙ (rw e refl)

pub none_left : (p : ℕ → Bool) (line : List ℕ) (at : ℕ) → length line ≤ at → position_or_len p (drop at line) ≡ 0
none_left p line at h = ap (position_or_len p) (drop_all at line h)

-- such a byte stands where the first one is, if it is before the end
first_there : (p : ℕ → Bool) (xs : List ℕ) (o : Option ℕ) → position p xs ≡ o → position_or_len p xs < length xs → p (get_or xs (position_or_len p xs) 0) ≡ true
first_there p xs None e h = absurd (omega (arith, h, first_none p xs e))
first_there p xs (Some k) e h = (let f = first_at p xs k e in ap (λ n. p (get_or xs n 0)) f.0 ∙ (position-Some p xs k 0 e).1)

first_within : (p : ℕ → Bool) (xs : List ℕ) (o : Option ℕ) → position p xs ≡ o → position_or_len p xs ≤ length xs
first_within p xs None e = omega (arith, first_none p xs e)
first_within p xs (Some k) e = omega (arith, first_at p xs k e)

pub next_within : (p : ℕ → Bool) (line : List ℕ) (at next : ℕ) → at ≤ length line → next ≡ at + position_or_len p (drop at line) → next ≤ length line
next_within p line at next h e = omega (arith, length-drop at line, first_within p (drop at line) (position p (drop at line)) refl)

pub next_there : (p : ℕ → Bool) (line : List ℕ) (at next : ℕ) → at ≤ length line → next ≡ at + position_or_len p (drop at line) → next < length line → p (get_or line next 0) ≡ true
next_there p line at next h e l =
    let k = position_or_len p (drop at line) in
    let t = first_there p (drop at line) (position p (drop at line)) refl (omega (arith, length-drop at line)) in
    let g : get_or (drop at line) k 0 ≡ get_or line (at + k) 0 = grind (arith, common_steps) in
    ap (λ n. p (get_or line n 0)) e ∙ ap p (sym g) ∙ t

ink_not_blank : (b : Bool) → not b ≡ true → b ≡ false
ink_not_blank true e = absurd (cc)
ink_not_blank false e = refl

word_by : (rest : List ℕ) (o : Option ℕ) → position is_blank rest ≡ o → 0 < length rest → 0 < position_or_len is_blank rest
    → words rest ≡ take (position_or_len is_blank rest) rest ∷ words (drop (position_or_len is_blank rest) rest)
word_by rest None e h l =
    let n = first_none is_blank rest e in
    let all : take (position_or_len is_blank rest) rest ≡ rest = take_all (position_or_len is_blank rest) rest (omega (arith, n)) in
    let none : words (drop (position_or_len is_blank rest) rest) ≡ [] = ap words (drop_all (position_or_len is_blank rest) rest (omega (arith, n))) ∙ words_none in
    words_last rest h e ∙ ap (λ w. w ∷ []) (sym all) ∙ ap (λ ws. take (position_or_len is_blank rest) rest ∷ ws) (sym none)
word_by rest (Some n) e h l =
    let f = first_at is_blank rest n e in
    words_first rest n (omega (arith, f.0)) e ∙ ap (λ k. take k rest ∷ words (drop k rest)) (sym f.0)

-- the word that begins at a place, and what follows it
pub found_next : (line : List ℕ) (from to : ℕ) → from < length line → is_ink (get_or line from 0) ≡ true → to ≡ from + position_or_len is_blank (drop from line)
    → words (drop from line) ≡ take (to - from) (drop from line) ∷ words (drop to line)
found_next line from to h ink e =
    let rest = drop from line in
    let n = position_or_len is_blank rest in
    let d : rest ≡ get_or line from 0 ∷ drop (suc from) line = drop-cons line from 0 h in
    let some : n ≡ position_or_len is_blank (drop (suc from) line) + 1 = ap (position_or_len is_blank) d ∙ stepped is_blank (get_or line from 0) (drop (suc from) line) (is_blank (get_or line from 0)) refl (ink_not_blank (is_blank (get_or line from 0)) ink) in
    word_by rest (position is_blank rest) refl (omega (arith, length-drop from line)) (omega (arith, some))
    ∙ ap (λ k. take k rest ∷ words (drop n rest)) (let k : n ≡ to - from = omega arith in k)
    ∙ ap (λ ws. take (to - from) rest ∷ words ws) (drop-drop n from line ∙ ap (λ k. drop k line) (sym e))

pub skipped : (line : List ℕ) (to next : ℕ) → next ≡ to + position_or_len is_ink (drop to line) → words (drop to line) ≡ words (drop next line)
skipped line to next e = words_skip (drop to line) (position_or_len is_ink (drop to line)) (omega arith) ∙ ap words (drop-drop (position_or_len is_ink (drop to line)) to line ∙ ap (λ k. drop k line) (sym e))

pub part_length : (bytes : List ℕ) (from to : ℕ) → to ≤ length bytes → length (part bytes from to) ≡ to - from
part_length bytes from to h = simp (length-take, length-drop) (omega arith)

-- a part of a part
pub part_inner : (bytes : List ℕ) (a b f t : ℕ) → f ≤ t → t ≤ b - a → part (part bytes a b) f t ≡ part bytes (a + f) (a + t)
part_inner bytes a b f t h k =
    let m : b - a ≡ f + (b - (a + f)) = omega arith in
    ap (take (t - f)) (ap (λ n. drop f (take n (drop a bytes))) m ∙ drop-take f (b - (a + f)) (drop a bytes) ∙ ap (take (b - (a + f))) (drop-drop f a bytes))
    ∙ take-take (t - f) (b - (a + f)) (drop (a + f) bytes) (omega arith)
    ∙ ap (λ n. take n (drop (a + f) bytes)) (omega arith)

-- one word more of a line is found
pub one_more : (bytes : List ℕ) (line : Span) (from to : ℕ) (found : List Span) (next : ℕ) → from < length (part_at bytes line) → is_ink (get_or (part_at bytes line) from 0) ≡ true
    → to ≡ from + position_or_len is_blank (drop from (part_at bytes line)) → next ≡ to + position_or_len is_ink (drop to (part_at bytes line)) → line.to ≤ length bytes → to ≤ length (part_at bytes line)
    → words_at bytes (found ++ record { from = line.from + from; to = line.from + to } ∷ []) ++ words (drop next (part_at bytes line)) ≡ words_at bytes found ++ words (drop from (part_at bytes line))
one_more bytes line from to found next h ink e f l low =
    let text = part_at bytes line in
    let size : length text ≡ line.to - line.from = part_length bytes line.from line.to l in
    let word : part text from to ≡ part bytes (line.from + from) (line.from + to) = part_inner bytes line.from line.to from to (omega arith) (omega arith) in
    ap (λ ws. ws ++ words (drop next text)) (map-append (part_at bytes) found (record { from = line.from + from; to = line.from + to } ∷ []))
    ∙ append_assoc (words_at bytes found) (part bytes (line.from + from) (line.from + to) ∷ []) (words (drop next text))
    ∙ ap (λ ws. words_at bytes found ++ (part bytes (line.from + from) (line.from + to) ∷ ws)) (sym (skipped text to next f))
    ∙ ap (λ w. words_at bytes found ++ (w ∷ words (drop to text))) (sym word)
    ∙ ap (λ ws. words_at bytes found ++ ws) (sym (found_next text from to h ink e))

-- a line of blanks has no word
pub none_from : (line : List ℕ) (from : ℕ) → from ≡ 0 + position_or_len is_ink (drop 0 line) → length line ≤ from → words line ≡ []
none_from line from e h = skipped line 0 from e ∙ ap words (drop_all from line h) ∙ words_none

-- the first word of another line, and what follows it
pub some_from : (line : List ℕ) (from to : ℕ) → from ≡ 0 + position_or_len is_ink (drop 0 line) → from < length line → to ≡ from + position_or_len is_blank (drop from line) → words line ≡ part line from to ∷ words (drop to line)
some_from line from to e h t = skipped line 0 from e ∙ found_next line from to h (next_there is_ink line 0 from (omega arith) e h) t

-- bytes above the space are no blanks
pub high_passed : (line : List ℕ) (at next : ℕ) → next ≡ at + position_or_len is_low (drop at line) → next + position_or_len is_blank (drop next line) ≡ at + position_or_len is_blank (drop at line)
high_passed line at next e =
    let n = position_or_len is_low (drop at line) in
    let there : drop n (drop at line) ≡ drop next line = drop-drop n at line ∙ ap (λ k. drop k line) (sym e) in
    let same : position_or_len is_blank (drop n (drop at line)) ≡ position_or_len is_blank (drop next line) = ap (position_or_len is_blank) there in
    omega (arith, e, same, skip_high (drop at line) n (omega arith))
