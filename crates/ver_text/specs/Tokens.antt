-- The tokens of a text. Source: IEEE Std 1364-2005, clause 3; lines that begin with a backquote are compiler directives
-- (clause 19), which are passed over, as attributes are (3.8).
use Rattle.std.specs.Prelude.{ℕ, zero, suc, ◌+◌, ◌==◌, Bool, false, ◌&&◌, List, [], ◌∷◌, ◌++◌, length, drop, Option, Some, None, if◌then◌else◌}
use Rattle.std.specs.List.{prefix_len}
use Rattle.vg_num.specs.Number.{is_digit}
use Rattle.vg_scan.specs.Lines.{is_blank, is_newline}
use Rattle.ver_text.specs.declared.class.Base.{Base}
use Rattle.ver_text.specs.declared.piece.Piece.{Piece}
use Rattle.ver_text.specs.declared.token.Token.{Token}
use Rattle.ver_text.specs.declared.token.TokenKind.{TokenKind}
use Rattle.ver_text.specs.declared.token.TokenKind.TheVariants.{Word, Escaped, Digits, Based, Mark, Stray, Unclosed}
use Rattle.ver_text.specs.Bytes.{is_letter, is_word_byte, is_printable, is_in_line, base_of, is_digit_of, is_mark}

-- a text begins with this byte
abbrev pub begins : ℕ → List ℕ → Bool
begins c [] = false
begins c (b ∷ bs) = b == c

-- a token of this kind, with so many bytes after its first
abbrev pub token : TokenKind → ℕ → Piece
token kind more = record { kind = Some kind; more = more }

-- no token, with so many bytes after its first
abbrev pub passed : ℕ → Piece
passed more = record { kind = None; more = more }

-- ---- numbers

-- so many bytes more after these, or none
abbrev pub with_more : ℕ → ℕ → ℕ
with_more n k = if k == 0 then 0 else n + k

-- how many digits of a base stand at the beginning of a text
abbrev pub digits_of : Option Base → List ℕ → ℕ
digits_of None bs = 0
digits_of (Some base) bs = prefix_len (is_digit_of base) bs

-- how many bytes a base and its digits take at the beginning of a text; 0 where they do not stand there
abbrev pub base_length : List ℕ → ℕ
base_length [] = 0
base_length (b ∷ bs) = with_more 1 (digits_of (base_of b) bs)

-- the same, where an `s` may stand before the base
abbrev pub signed_length : List ℕ → ℕ
signed_length bs = if begins 115 bs then with_more 1 (base_length (drop 1 bs)) else base_length bs

-- the same, with a `'` before it
abbrev pub based_length : List ℕ → ℕ
based_length bs = if begins 39 bs then with_more 1 (signed_length (drop 1 bs)) else 0

-- a number that is so many digits more, and a base with digits or none
abbrev pub number : ℕ → ℕ → Piece
number digits based = if based == 0 then token Digits digits else token Based (digits + based)

-- the number that begins with a digit
abbrev pub number_before : List ℕ → Piece
number_before bs = number (prefix_len is_digit bs) (based_length (drop (prefix_len is_digit bs) bs))

-- the number that begins with a `'`
abbrev pub unsized_before : List ℕ → Piece
unsized_before bs = if signed_length bs == 0 then token Stray 0 else token Based (signed_length bs)

-- ---- identifiers

-- the identifier that begins with a backslash: it ends before a blank, a line's end or the text's end, and any other
-- byte after it is no token itself
abbrev pub escaped_before : List ℕ → Piece
escaped_before bs =
    if prefix_len is_printable bs == 0 then token Stray 0 else token Escaped (prefix_len is_printable bs)

-- ---- what is passed over

-- a text begins with a `*` and this byte
abbrev pub closes : ℕ → List ℕ → Bool
closes c [] = false
closes c (b ∷ bs) = (b == 42) && begins c bs

-- how many bytes stand before the first `*` with this byte after it, or in all
abbrev pub before_close : ℕ → List ℕ → ℕ
before_close c [] = 0
before_close c (b ∷ bs) = if closes c (b ∷ bs) then 0 else suc (before_close c bs)

-- a comment or an attribute, after its first two bytes, up to a `*` and this byte
abbrev pub enclosed : ℕ → List ℕ → Piece
enclosed c bs =
    if before_close c bs == length bs then token Unclosed (1 + length bs) else passed (3 + before_close c bs)

-- what begins with a `/`: a comment up to its line's end or up to `*/`, whose end is sought after its two opening bytes
abbrev pub slash_before : List ℕ → Piece
slash_before bs =
    if begins 47 bs then passed (prefix_len is_in_line bs)
    else (if begins 42 bs then enclosed 47 (drop 1 bs) else token Stray 0)

-- what begins with a `(`: an attribute up to `*)`, whose end is sought after its two opening bytes, or the byte alone
abbrev pub bracket_before : List ℕ → Piece
bracket_before bs = if begins 42 bs then enclosed 41 (drop 1 bs) else token (Mark 40) 0

-- how many bytes a compiler directive takes at the beginning of a line: its first byte but blanks is a backquote
abbrev pub directive_length : List ℕ → ℕ
directive_length bs = if begins 96 (drop (prefix_len is_blank bs) bs) then prefix_len is_in_line bs else 0

-- ---- the text

-- what a byte begins before others that is no blank, letter or digit and ends no line; a carriage return ends a line
-- only before a newline
abbrev pub mark_before : ℕ → List ℕ → Piece
mark_before b bs =
    if b == 40 then bracket_before bs
    else (if is_mark b then token (Mark b) 0
    else (if b == 92 then escaped_before bs
    else (if b == 47 then slash_before bs
    else (if b == 39 then unsized_before bs
    else (if (b == 13) && begins 10 bs then passed 0 else token Stray 0)))))

-- what a byte begins before others
abbrev pub piece : ℕ → List ℕ → Piece
piece b bs =
    if is_blank b then passed 0
    else (if is_letter b then token Word (prefix_len is_word_byte bs)
    else (if is_digit b then number_before bs
    else (if is_newline b then passed (directive_length bs) else mark_before b bs)))

-- the token of a kind, if any, from one place to another
abbrev pub token_of : Option TokenKind → ℕ → ℕ → List Token
token_of None from to = []
token_of (Some kind) from to = record { kind = kind; from = from; to = to } ∷ []

-- the token that begins at a place, if it is one
abbrev pub token_at : ℕ → Piece → List Token
token_at at p = token_of p.kind at (at + 1 + p.more)

-- The tokens from a place on, where the first bytes belong to what began before: each other byte begins a token, or
-- what is passed over between tokens.
unfoldable pub tokens_from : ℕ → ℕ → List ℕ → List Token
tokens_from skip at [] = []
tokens_from (suc skip) at (b ∷ bs) = tokens_from skip (at + 1) bs
tokens_from zero at (b ∷ bs) = token_at at (piece b bs) ++ tokens_from (piece b bs).more (at + 1) bs

-- the tokens of a text, in which a directive may stand first
abbrev pub tokens_of : List ℕ → List Token
tokens_of text = tokens_from (directive_length text) 0 text
