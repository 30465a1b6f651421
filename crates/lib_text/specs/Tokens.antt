-- The tokens of a library's text, in which comments and continued line ends are blank.
use Rattle.std.specs.Prelude.{ℕ, zero, suc, ◌+◌, ◌==◌, nat_le, nat_lt, Bool, true, not, ◌&&◌, ◌||◌, List, [], ◌∷◌, ◌++◌, length, drop, Option, Some, None, if◌then◌else◌}
use Rattle.std.specs.List.{prefix_len}
use Rattle.vg_scan.specs.Lines.{is_blank, is_newline}
use Rattle.lib_text.specs.declared.token.Token.{Token}
use Rattle.lib_text.specs.declared.token.TokenKind.{TokenKind}
use Rattle.lib_text.specs.declared.token.TokenKind.TheVariants.{Word, Value, List as IsList, Broken, Mark}
use Rattle.lib_text.specs.declared.token.Content.{Content}
use Rattle.lib_text.specs.declared.token.Content.TheVariants.{Value as OfValue, List as OfList}
use Rattle.lib_text.specs.declared.quoting.Quoting.{Quoting}
use Rattle.lib_text.specs.declared.quoting.Quoting.TheVariants.{Outside}
use Rattle.lib_text.specs.Strings.{quoting_after, is_quoted, until}

-- a blank or a line's end
abbrev pub is_space : ℕ → Bool
is_space b = is_blank b || is_newline b

-- a letter or `_`
abbrev pub is_letter : ℕ → Bool
is_letter b = (nat_le 97 b && nat_le b 122) || ((nat_le 65 b && nat_le b 90) || (b == 95))

-- a byte of an identifier after its first
abbrev pub is_word_byte : ℕ → Bool
is_word_byte b = is_letter b || (nat_le 48 b && nat_le b 57)

-- A value ends before a `;`, a `}` outside strings, or its line's end; a list before a `)` outside strings.
abbrev pub ends : Content → Quoting → ℕ → Bool
ends OfValue quoting b = is_newline b || (not (is_quoted quoting) && ((b == 59) || (b == 125)))
ends OfList quoting b = not (is_quoted quoting) && (b == 41)

-- how many bytes stand before the end of a value or of a list
abbrev pub end_of : Content → Quoting → List ℕ → ℕ
end_of content quoting bs = until (ends content) quoting bs

-- none of these is over 126 outside strings
unfoldable pub is_sound : Content → Quoting → List ℕ → Bool
is_sound content quoting [] = true
is_sound content quoting (b ∷ bs) =
    if ends content quoting b then true
    else ((is_quoted quoting || nat_le b 126) && is_sound content (quoting_after quoting b) bs)

-- a token of this kind from one place to another
abbrev pub token : TokenKind → ℕ → ℕ → Token
token kind from to = record { kind = kind; from = from; to = to }

-- what a value or a list is, empty or not, sound or not: a value is not empty
abbrev pub kind_by : Content → Bool → Bool → TokenKind
kind_by OfValue empty sound = if empty || not sound then Broken else Value
kind_by OfList empty sound = if sound then IsList else Broken

-- what a value or a list is, by the text from it on
abbrev pub kind_of : Content → List ℕ → TokenKind
kind_of content bs = kind_by content (end_of content Outside bs == 0) (is_sound content Outside bs)

-- how many blanks stand before a value
abbrev pub indent : List ℕ → ℕ
indent bs = prefix_len is_blank bs

-- the value that begins at a place or after blanks there; none where the text ends first
abbrev pub value_at : ℕ → List ℕ → List Token
value_at at bs =
    if nat_lt (indent bs) (length bs)
    then token (kind_of OfValue (drop (indent bs) bs)) (at + indent bs)
    (at + indent bs + end_of OfValue Outside (drop (indent bs) bs)) ∷ [] else []

-- the list that begins at a place; none where it does not end
abbrev pub list_at : ℕ → List ℕ → List Token
list_at at bs =
    if nat_lt (end_of OfList Outside bs) (length bs) then token (kind_of OfList bs) at (at + end_of OfList Outside bs)
    ∷ [] else []

-- what a token that is this byte has after it
abbrev pub content_after : ℕ → Option Content
content_after b = if b == 58 then Some OfValue else (if b == 40 then Some OfList else None)

-- the token of this content that begins at a place, if any
abbrev pub content_at : Option Content → ℕ → List ℕ → List Token
content_at None at bs = []
content_at (Some OfValue) at bs = value_at at bs
content_at (Some OfList) at bs = list_at at bs

-- how many bytes it takes, with blanks before it
abbrev pub content_length : Option Content → List ℕ → ℕ
content_length None bs = 0
content_length (Some OfValue) bs = indent bs + end_of OfValue Outside (drop (indent bs) bs)
content_length (Some OfList) bs = end_of OfList Outside bs

-- the tokens that begin with a byte at a place: none, an identifier, or the byte itself with its content
abbrev pub begun : ℕ → ℕ → List ℕ → List Token
begun at b bs =
    if is_space b then []
    else (if is_letter b then token Word at (at + 1 + prefix_len is_word_byte bs) ∷ []
    else token (Mark b) at (at + 1) ∷ content_at (content_after b) (at + 1) bs)

-- how many bytes after it they take
abbrev pub begun_length : ℕ → List ℕ → ℕ
begun_length b bs =
    if is_space b then 0 else (if is_letter b then prefix_len is_word_byte bs else content_length (content_after b) bs)

-- The tokens from a place on, where the first bytes belong to a token that began before: each other byte is a blank or
-- a line's end, or begins a token.
unfoldable pub tokens_from : ℕ → ℕ → List ℕ → List Token
tokens_from skip at [] = []
tokens_from (suc skip) at (b ∷ bs) = tokens_from skip (at + 1) bs
tokens_from zero at (b ∷ bs) = begun at b bs ++ tokens_from (begun_length b bs) (at + 1) bs

-- the tokens of a text
abbrev pub tokens_of : List ℕ → List Token
tokens_of text = tokens_from 0 0 text
