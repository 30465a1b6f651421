-- The tokens of a text stand in it one after another.
use Rattle.std.proofs.Common.{◌≡◌, ℕ, zero, suc, ◌+◌, ◌≤◌, Bool, true, false, ◌&&◌, ◌==◌, ◌⊎◌, inl, inr, List, [], ◌∷◌, ◌++◌, length, drop, Option, Some, None, refl, arith, length-drop, if◌then◌else◌}
use Rattle.std.specs.List.{prefix_len}
use Rattle.std.proofs.lemmas.List.Sums.{prefix_len-le-length}
use Rattle.std.proofs.lemmas.Bool.Decides.{nat_tests}
use Rattle.vg_num.specs.Number.{is_digit}
use Rattle.vg_scan.specs.Lines.{is_blank, is_newline}
use Rattle.ver_text.specs.declared.class.Base.{Base}
use Rattle.ver_text.specs.declared.piece.Piece.{Piece}
use Rattle.ver_text.specs.declared.token.Token.{Token}
use Rattle.ver_text.specs.declared.token.TokenKind.{TokenKind}
use Rattle.ver_text.specs.declared.token.TokenKind.TheVariants.{Word, Escaped, Digits, Based, Mark, Stray, Unclosed}
use Rattle.ver_text.specs.Bytes.{is_letter, is_word_byte, is_printable, is_in_line, base_of, is_digit_of, is_mark}
use Rattle.ver_text.specs.Laws.{StandBetween, StandInOrder}
use Rattle.ver_text.specs.Tokens.{begins, token, passed, with_more, digits_of, base_length, signed_length, based_length, number_before, unsized_before, escaped_before, before_close, enclosed, slash_before, bracket_before, directive_length, mark_before, piece, token_of, token_at, tokens_from, tokens_of}

-- ---- no piece is longer than the text

with_more-le : (n k m : ℕ) → n + k ≤ m → with_more n k ≤ m
with_more-le n k m h = by_test (k == 0) refl
  where
    by_test : (t : Bool) → (k == 0) ≡ t → (if t then 0 else n + k) ≤ m
    by_test true e = omega arith
    by_test false e = h

begins_some : (c : ℕ) (bs : List ℕ) → begins c bs ≡ true → 1 ≤ length bs
begins_some c [] e = absurd (cc)
begins_some c (b ∷ bs) e = omega arith

one_more : (n : ℕ) (bs : List ℕ) → 1 ≤ length bs → n ≤ length (drop 1 bs) → 1 + n ≤ length bs
one_more n bs h k = omega (arith, simp length-drop at k)

digits_of-le : (base : Option Base) (bs : List ℕ) → digits_of base bs ≤ length bs
digits_of-le None bs = omega arith
digits_of-le (Some base) bs = prefix_len-le-length (is_digit_of base) bs

base_length-le : (bs : List ℕ) → base_length bs ≤ length bs
base_length-le [] = omega arith
base_length-le (b ∷ bs) = with_more-le 1 (digits_of (base_of b) bs) (length (b ∷ bs)) (omega (arith, digits_of-le (base_of b) bs))

signed_length-le : (bs : List ℕ) → signed_length bs ≤ length bs
signed_length-le bs = by_test (begins 115 bs) refl
  where
    by_test : (t : Bool) → begins 115 bs ≡ t → (if t then with_more 1 (base_length (drop 1 bs)) else base_length bs) ≤ length bs
    by_test true e = with_more-le 1 (base_length (drop 1 bs)) (length bs) (one_more (base_length (drop 1 bs)) bs (begins_some 115 bs e) (base_length-le (drop 1 bs)))
    by_test false e = base_length-le bs

based_length-le : (bs : List ℕ) → based_length bs ≤ length bs
based_length-le bs = by_test (begins 39 bs) refl
  where
    by_test : (t : Bool) → begins 39 bs ≡ t → (if t then with_more 1 (signed_length (drop 1 bs)) else 0) ≤ length bs
    by_test true e = with_more-le 1 (signed_length (drop 1 bs)) (length bs) (one_more (signed_length (drop 1 bs)) bs (begins_some 39 bs e) (signed_length-le (drop 1 bs)))
    by_test false e = omega arith

-- one of two pieces
either-le : (t : Bool) (p q : Piece) (n : ℕ) → p.more ≤ n → q.more ≤ n → (if t then p else q).more ≤ n
either-le true p q n h k = h
either-le false p q n h k = k

number_before-le : (bs : List ℕ) → (number_before bs).more ≤ length bs
number_before-le bs =
    let d = prefix_len is_digit bs in
    let h : d ≤ length bs = prefix_len-le-length is_digit bs in
    let k : based_length (drop d bs) ≤ length (drop d bs) = based_length-le (drop d bs) in
    either-le (based_length (drop d bs) == 0) (token Digits d) (token Based (d + based_length (drop d bs))) (length bs) h (omega (arith, simp length-drop at k))

unsized_before-le : (bs : List ℕ) → (unsized_before bs).more ≤ length bs
unsized_before-le bs = either-le (signed_length bs == 0) (token Stray 0) (token Based (signed_length bs)) (length bs) (omega arith) (signed_length-le bs)

escaped_before-le : (bs : List ℕ) → (escaped_before bs).more ≤ length bs
escaped_before-le bs =
    either-le (prefix_len is_printable bs == 0) (token Stray 0) (token Escaped (prefix_len is_printable bs)) (length bs) (omega arith)
    (prefix_len-le-length is_printable bs)

-- what ends ends inside the text
close_within : (c : ℕ) (bs : List ℕ) → (before_close c bs ≡ length bs) ⊎ (before_close c bs + 2 ≤ length bs)
close_within c [] = inl refl
close_within c (b ∷ bs) = by_test (b == 42) (begins c bs) refl (close_within c bs)
  where
    by_test : (s t : Bool) → begins c bs ≡ t → (before_close c bs ≡ length bs) ⊎ (before_close c bs + 2 ≤ length bs)
        → ((if s && t then 0 else suc (before_close c bs)) ≡ length (b ∷ bs)) ⊎ ((if s && t then 0 else suc (before_close c bs)) + 2 ≤ length (b ∷ bs))
    by_test true true e h = let k = begins_some c bs e in inr (omega (arith, k))
    by_test true false e (inl h) = inl (omega (arith, h))
    by_test true false e (inr h) = inr (omega (arith, h))
    by_test false t e (inl h) = inl (omega (arith, h))
    by_test false t e (inr h) = inr (omega (arith, h))

enclosed-le : (c : ℕ) (bs : List ℕ) → (enclosed c bs).more ≤ 1 + length bs
enclosed-le c bs = by_test (before_close c bs == length bs) refl (close_within c bs)
  where
    by_test : (t : Bool) → (before_close c bs == length bs) ≡ t → (before_close c bs ≡ length bs) ⊎ (before_close c bs + 2 ≤ length bs)
        → (if t then token Unclosed (1 + length bs) else passed (3 + before_close c bs)).more ≤ 1 + length bs
    by_test true e h = omega arith
    by_test false e (inl h) = absurd (grind (arith, nat_tests))
    by_test false e (inr h) = omega (arith, h)

le_by : (m n k : ℕ) → m ≤ 1 + n → 1 + n ≤ k → m ≤ k
le_by m n k h l = omega arith

opened-le : (c o : ℕ) (bs : List ℕ) (q : Piece) → q.more ≤ length bs → (if begins o bs then enclosed c (drop 1 bs) else q).more ≤ length bs
opened-le c o bs q h = by_test (begins o bs) refl
  where
    by_test : (t : Bool) → begins o bs ≡ t → (if t then enclosed c (drop 1 bs) else q).more ≤ length bs
    by_test true e = let k = begins_some o bs e in let d = length-drop 1 bs in le_by (enclosed c (drop 1 bs)).more (length (drop 1 bs)) (length bs) (enclosed-le c (drop 1 bs)) (omega (arith, k, d))
    by_test false e = h

slash_before-le : (bs : List ℕ) → (slash_before bs).more ≤ length bs
slash_before-le bs =
    either-le (begins 47 bs) (passed (prefix_len is_in_line bs)) (if begins 42 bs then enclosed 47 (drop 1 bs) else token Stray 0) (length bs)
    (prefix_len-le-length is_in_line bs) (opened-le 47 42 bs (token Stray 0) (omega arith))

bracket_before-le : (bs : List ℕ) → (bracket_before bs).more ≤ length bs
bracket_before-le bs = opened-le 41 42 bs (token (Mark 40) 0) (omega arith)

directive_length-le : (bs : List ℕ) → directive_length bs ≤ length bs
directive_length-le bs = by_test (begins 96 (drop (prefix_len is_blank bs) bs))
  where
    by_test : (t : Bool) → (if t then prefix_len is_in_line bs else 0) ≤ length bs
    by_test true = prefix_len-le-length is_in_line bs
    by_test false = omega arith

mark_before-le : (b : ℕ) (bs : List ℕ) → (mark_before b bs).more ≤ length bs
mark_before-le b bs =
    let last = if (b == 13) && begins 10 bs then passed 0 else token Stray 0 in
    let fifth = if b == 39 then unsized_before bs else last in
    let fourth = if b == 47 then slash_before bs else fifth in
    let third = if b == 92 then escaped_before bs else fourth in
    let second = if is_mark b then token (Mark b) 0 else third in
    let n = length bs in
    either-le (b == 40) (bracket_before bs) second n (bracket_before-le bs)
    (either-le (is_mark b) (token (Mark b) 0) third n (omega arith)
    (either-le (b == 92) (escaped_before bs) fourth n (escaped_before-le bs)
    (either-le (b == 47) (slash_before bs) fifth n (slash_before-le bs)
    (either-le (b == 39) (unsized_before bs) last n (unsized_before-le bs)
    (either-le ((b == 13) && begins 10 bs) (passed 0) (token Stray 0) n (omega arith) (omega arith))))))

piece-le : (b : ℕ) (bs : List ℕ) → (piece b bs).more ≤ length bs
piece-le b bs =
    let third = if is_newline b then passed (directive_length bs) else mark_before b bs in
    let second = if is_digit b then number_before bs else third in
    let first = if is_letter b then token Word (prefix_len is_word_byte bs) else second in
    let n = length bs in
    either-le (is_blank b) (passed 0) first n (omega arith)
    (either-le (is_letter b) (token Word (prefix_len is_word_byte bs)) second n (prefix_len-le-length is_word_byte bs)
    (either-le (is_digit b) (number_before bs) third n (number_before-le bs)
    (either-le (is_newline b) (passed (directive_length bs)) (mark_before b bs) n (directive_length-le bs) (mark_before-le b bs))))

-- ---- the tokens

from_before : (from from' to : ℕ) (ts : List Token) → from' ≤ from → StandBetween from to ts → StandBetween from' to ts
from_before from from' to [] h s = omega (arith, s)
from_before from from' to (t ∷ ts) h s = (omega (arith, s.0), s.1, s.2)

with_piece : (at to : ℕ) (p : Piece) (ts : List Token) → StandBetween (at + 1 + p.more) to ts → StandBetween at to (token_at at p ++ ts)
with_piece at to p ts s = by_kind p.kind
  where
    by_kind : (kind : Option TokenKind) → StandBetween at to (token_of kind at (at + 1 + p.more) ++ ts)
    by_kind None = from_before (at + 1 + p.more) at to ts (omega arith) s
    by_kind (Some k) = (omega arith, omega arith, s)

stand : (bs : List ℕ) (skip at : ℕ) → skip ≤ length bs → StandBetween (at + skip) (at + length bs) (tokens_from skip at bs)
unfolding tokens_from
stand [] skip at h = omega arith
stand (b ∷ bs) (suc skip) at h =
    let e : at + 1 + skip ≡ at + suc skip = omega arith in
    let f : at + 1 + length bs ≡ at + length (b ∷ bs) = omega arith in
    rw (← e, ← f) (stand bs skip (at + 1) (omega arith))
stand (b ∷ bs) zero at h =
    let f : at + 1 + length bs ≡ at + length (b ∷ bs) = omega arith in
    let z : at + 0 ≡ at = omega arith in
    rw (z, ← f) (with_piece at (at + 1 + length bs) (piece b bs) (tokens_from (piece b bs).more (at + 1) bs) (stand bs (piece b bs).more (at + 1) (piece-le b bs)))

pub stand_in_order : StandInOrder
stand_in_order text =
    let z : 0 + length text ≡ length text = omega arith in
    from_before (0 + directive_length text) 0 (length text) (tokens_of text) (omega arith)
    (rw z at (stand text (directive_length text) 0 (directive_length-le text)))
