-- What is written into a text is read again, whatever stands before it and after it.
use Rattle.std.specs.Prelude.{◌≡◌, ℕ, ◌+◌, ◌<◌, ◌==◌, Bool, true, false, ◌&&◌, List, [], ◌∷◌, ◌++◌, length}
use Rattle.std.specs.List.{list_all}
use Rattle.vg_num.specs.Number.{is_digit}
use Rattle.vg_scan.specs.Lines.{is_blank}
use Rattle.ver_text.specs.declared.token.TokenKind.{TokenKind}
use Rattle.ver_text.specs.declared.token.TokenKind.TheVariants.{Word, Escaped, Digits, Mark}
use Rattle.ver_text.specs.Bytes.{is_word_byte, is_printable, is_mark}
use Rattle.ver_text.specs.Names.{is_word}
use Rattle.ver_text.specs.Tokens.{begins, tokens_from}

-- from a place on, a text begins with a token of this kind that has so many bytes, before the rest
abbrev pub BeginsToken : TokenKind → ℕ → ℕ → List ℕ → List ℕ → Type 0
BeginsToken kind at count text rest =
    tokens_from 0 at text ≡ record { kind = kind; from = at; to = at + count } ∷ tokens_from 0 (at + count) rest

-- a text begins with a byte that passes a test
abbrev pub begins_with : (ℕ → Bool) → List ℕ → Bool
begins_with test [] = false
begins_with test (b ∷ bs) = test b

-- a word is one token, where no byte of a word follows
abbrev pub WordsAreTokens : Type 0
WordsAreTokens =
    (at : ℕ) (name rest : List ℕ) → is_word name ≡ true → begins_with is_word_byte rest ≡ false
    → BeginsToken Word at (length name) (name ++ rest) rest

-- so is a name of printed bytes, after a backslash and before a blank
abbrev pub EscapedNamesAreTokens : Type 0
EscapedNamesAreTokens =
    (at : ℕ) (name rest : List ℕ) → 0 < length name → list_all is_printable name ≡ true
    → BeginsToken Escaped at (1 + length name) (92 ∷ name ++ 32 ∷ rest) (32 ∷ rest)

-- so are digits, where no digit and no base follows
abbrev pub DigitsAreTokens : Type 0
DigitsAreTokens =
    (at : ℕ) (digits rest : List ℕ) → 0 < length digits → list_all is_digit digits ≡ true
    → begins_with is_digit rest ≡ false → begins 39 rest ≡ false
    → BeginsToken Digits at (length digits) (digits ++ rest) rest

-- so is a byte that is one, where it begins no attribute
abbrev pub MarksAreTokens : Type 0
MarksAreTokens =
    (at b : ℕ) (rest : List ℕ) → is_mark b ≡ true → ((b == 40) && begins 42 rest) ≡ false
    → BeginsToken (Mark b) at 1 (b ∷ rest) rest

-- a blank is passed over
abbrev pub BlanksArePassed : Type 0
BlanksArePassed =
    (at b : ℕ) (rest : List ℕ) → is_blank b ≡ true → tokens_from 0 at (b ∷ rest) ≡ tokens_from 0 (at + 1) rest
