-- What is written into a text is read again.
use Rattle.std.proofs.Common.{◌≡◌, ℕ, ◌+◌, ◌==◌, Bool, true, false, ◌&&◌, List, [], ◌∷◌, ◌++◌, length, drop, refl, sym, ap, ◌∙◌, arith, length-append}
use Rattle.std.specs.List.{list_all, prefix_len}
use Rattle.std.proofs.lemmas.Bool.Decides.{nat_tests}
use Rattle.vg_num.specs.Number.{is_digit}
use Rattle.vg_scan.specs.Lines.{is_blank, is_newline}
use Rattle.ver_text.specs.declared.token.TokenKind.{TokenKind}
use Rattle.ver_text.specs.declared.token.TokenKind.TheVariants.{Word, Escaped, Digits, Mark}
use Rattle.ver_text.specs.Bytes.{is_letter, is_word_byte, is_printable, is_mark}
use Rattle.ver_text.specs.Tokens.{begins, token, passed, based_length, number, bracket_before, mark_before, piece}
use Rattle.ver_text.specs.Written.{BeginsToken, begins_with, WordsAreTokens, EscapedNamesAreTokens, DigitsAreTokens, MarksAreTokens, BlanksArePassed}
use Rattle.ver_text.proofs.TokenLemmas.{by_piece}

parts_true : (a b : Bool) → (a && b) ≡ true → (a ≡ true) × (b ≡ true)
parts_true true b e = (refl, e)
parts_true false b e = absurd (cc)

drop_front : (xs ys : List ℕ) → drop (length xs) (xs ++ ys) ≡ ys
drop_front [] ys = refl
drop_front (x ∷ xs) ys = drop_front xs ys

module _ (test : ℕ → Bool) where
  run_stops : (rest : List ℕ) → begins_with test rest ≡ false → prefix_len test rest ≡ 0
  run_stops [] e = refl
  run_stops (b ∷ bs) e = rw e refl

  run_all : (bs rest : List ℕ) → list_all test bs ≡ true → prefix_len test rest ≡ 0 → prefix_len test (bs ++ rest) ≡ length bs
  run_all [] rest e h = h
  run_all (b ∷ bs) rest e h = let f = parts_true (test b) (list_all test bs) e in rw (f.0, run_all bs rest f.1 h) (omega arith)

-- a piece that is a token
begins_token : (kind : TokenKind) (at b : ℕ) (bs rest : List ℕ) → token kind (length bs) ≡ piece b (bs ++ rest) → BeginsToken kind at (1 + length bs) (b ∷ bs ++ rest) rest
begins_token kind at b bs rest p =
    let k : at + 1 + length bs ≡ at + (1 + length bs) = omega arith in
    by_piece b (bs ++ rest) (token kind (length bs)) p (simp length-append (omega arith)) at ∙ rw (drop_front, k) refl

letter_no_blank : (b : ℕ) → is_letter b ≡ true → is_blank b ≡ false
letter_no_blank b e = grind (arith, nat_tests)

pub words_are_tokens : WordsAreTokens
words_are_tokens at [] rest w e = absurd (cc)
words_are_tokens at (b ∷ bs) rest w e =
    let f = parts_true (is_letter b) (list_all is_word_byte bs) w in
    let n : prefix_len is_word_byte (bs ++ rest) ≡ length bs = run_all is_word_byte bs rest f.1 (run_stops is_word_byte rest e) in
    let k : 1 + length bs ≡ length (b ∷ bs) = omega arith in
    rw k at (begins_token Word at b bs rest (rw (letter_no_blank b f.0, f.0, n) refl))

pub escaped_names_are_tokens : EscapedNamesAreTokens
escaped_names_are_tokens at name rest some e =
    let n : prefix_len is_printable (name ++ 32 ∷ rest) ≡ length name = run_all is_printable name (32 ∷ rest) e refl in
    let z : (length name == 0) ≡ false = grind (arith, nat_tests) in
    begins_token Escaped at 92 name (32 ∷ rest) (rw (n, z) refl)

digit_is_no_blank : (b : ℕ) → is_digit b ≡ true → is_blank b ≡ false
digit_is_no_blank b e = grind (arith, nat_tests)

digit_is_no_letter : (b : ℕ) → is_digit b ≡ true → is_letter b ≡ false
digit_is_no_letter b e = grind (arith, nat_tests)

pub digits_are_tokens : DigitsAreTokens
digits_are_tokens at [] rest some d e q = absurd (omega arith)
digits_are_tokens at (b ∷ bs) rest some d e q =
    let f = parts_true (is_digit b) (list_all is_digit bs) d in
    let n : prefix_len is_digit (bs ++ rest) ≡ length bs = run_all is_digit bs rest f.1 (run_stops is_digit rest e) in
    let k : 1 + length bs ≡ length (b ∷ bs) = omega arith in
    let p : number (length bs) (based_length rest) ≡ token Digits (length bs) = rw q refl in
    rw k at (begins_token Digits at b bs rest (rw (digit_is_no_blank b f.0, digit_is_no_letter b f.0, f.0, n, drop_front) (sym p)))

mark_is_no_blank : (b : ℕ) → is_mark b ≡ true → is_blank b ≡ false
mark_is_no_blank b e = grind (arith, nat_tests)

mark_is_no_letter : (b : ℕ) → is_mark b ≡ true → is_letter b ≡ false
mark_is_no_letter b e = grind (arith, nat_tests)

mark_is_no_digit : (b : ℕ) → is_mark b ≡ true → is_digit b ≡ false
mark_is_no_digit b e = grind (arith, nat_tests)

mark_is_no_newline : (b : ℕ) → is_mark b ≡ true → is_newline b ≡ false
mark_is_no_newline b e = grind (arith, nat_tests)

is_forty : (b : ℕ) → (b == 40) ≡ true → b ≡ 40
is_forty b e = grind (arith, nat_tests)

bracket : (rest : List ℕ) → begins 42 rest ≡ false → bracket_before rest ≡ token (Mark 40) 0
bracket rest e = rw e refl

mark_piece : (b : ℕ) (rest : List ℕ) → is_mark b ≡ true → ((b == 40) && begins 42 rest) ≡ false → mark_before b rest ≡ token (Mark b) 0
mark_piece b rest m e = by_test (b == 40) refl
  where
    by_test : (t : Bool) → (b == 40) ≡ t → mark_before b rest ≡ token (Mark b) 0
    by_test true f =
        let g : begins 42 rest ≡ false = rw f at e in
        let same : b ≡ 40 = is_forty b f in
        rw f (bracket rest g ∙ ap (λ (c : ℕ). token (Mark c) 0) (sym same))
    by_test false f = rw (m, f) refl

pub marks_are_tokens : MarksAreTokens
marks_are_tokens at b rest m e =
    begins_token (Mark b) at b [] rest
    (rw (mark_is_no_blank b m, mark_is_no_letter b m, mark_is_no_digit b m, mark_is_no_newline b m) (sym (mark_piece b rest m e)))

pub blanks_are_passed : BlanksArePassed
blanks_are_passed at b rest e =
    let z : at + 1 + 0 ≡ at + 1 = omega arith in
    by_piece b rest (passed 0) (rw e refl) (omega arith) at ∙ rw z refl
