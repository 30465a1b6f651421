-- What the tokens of a text are to the grammar.
use Rattle.std.specs.Prelude.{ℕ, ◌==◌, List, length, map, codes, if◌then◌else◌}
use Rattle.std.specs.Str.{bytes_eq}
use Rattle.vg_scan.specs.Lines.{part}
use Rattle.lib_text.specs.declared.token.Token.{Token}
use Rattle.lib_text.specs.declared.token.TokenKind.{TokenKind}
use Rattle.lib_text.specs.declared.token.TokenKind.TheVariants.{Word as AWord, Value as AValue, List as AList, Broken, Mark}
use Rattle.lib_text.specs.declared.kind.Kind.{Kind}
use Rattle.lib_text.specs.declared.kind.Kind.TheVariants.{Library, Cell, Pin, Word, Colon, Value, Open, Single, Several, Other, Close, Begin, End, Semicolon, Stray}
use Rattle.lib_text.specs.Arguments.{arguments_of, are_names}
use Rattle.lib_text.specs.Tokens.{tokens_of}

-- an identifier
abbrev pub word_kind : List ℕ → Kind
word_kind word =
    if bytes_eq word (codes "library") then Library
    else (if bytes_eq word (codes "cell") then Cell
    else (if bytes_eq word (codes "pin") then Pin else Word))

-- the arguments are names, and there is one or more
unfoldable pub list_kind : List ℕ → Kind
list_kind list =
    if are_names list then (if length (arguments_of list) == 1 then Single else Several) else Other

-- another byte
abbrev pub mark_kind : ℕ → Kind
mark_kind b =
    if b == 58 then Colon
    else (if b == 40 then Open
    else (if b == 41 then Close
    else (if b == 123 then Begin
    else (if b == 125 then End
    else (if b == 59 then Semicolon else Stray)))))

-- a token of this kind, with these bytes
abbrev pub grammar_kind : TokenKind → List ℕ → Kind
grammar_kind AWord bytes = word_kind bytes
grammar_kind AValue bytes = Value
grammar_kind AList bytes = list_kind bytes
grammar_kind Broken bytes = Stray
grammar_kind (Mark b) bytes = mark_kind b

-- a token of a text
abbrev pub kind_in : List ℕ → Token → Kind
kind_in text token = grammar_kind token.kind (part text token.from token.to)

-- the tokens of a text
abbrev pub kinds_of : List ℕ → List Kind
kinds_of text = map (kind_in text) (tokens_of text)
