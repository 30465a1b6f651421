-- What the tokens of a text are to the grammar. Source: IEEE Std 1364-2005, clause 3 and annex B: a keyword is no
-- simple identifier, and an escaped identifier is no keyword.
use Rattle.std.specs.Prelude.{ℕ, ◌==◌, ◌||◌, ◌^◌, nat_lt, Bool, List, map, codes, if◌then◌else◌}
use Rattle.std.specs.Str.{bytes_eq}
use Rattle.vg_num.specs.Number.{value_of}
use Rattle.vg_scan.specs.Lines.{part}
use Rattle.ver_text.specs.declared.token.Token.{Token}
use Rattle.ver_text.specs.declared.token.TokenKind.{TokenKind}
use Rattle.ver_text.specs.declared.token.TokenKind.TheVariants.{Word, Escaped, Digits, Based as ABased, Mark, Stray as AStray, Unclosed}
use Rattle.ver_text.specs.declared.kind.Kind.{Kind}
use Rattle.ver_text.specs.declared.kind.Kind.TheVariants.{Module, EndModule, Direction, Wire, NetType, Assign, Parameter, Identifier, Zero, Small, Limit, Large, Based, Open, Close, OpenSquare, CloseSquare, OpenBrace, CloseBrace, Comma, Semicolon, Dot, Colon, Equals, Hash, Stray}
use Rattle.ver_text.specs.Tokens.{tokens_of}

-- a keyword for the direction of a port
abbrev pub is_direction : List ℕ → Bool
is_direction word = bytes_eq word (codes "input") || (bytes_eq word (codes "output") || bytes_eq word (codes "inout"))

-- a keyword for a type of nets, other than `wire`
abbrev pub is_net_type : List ℕ → Bool
is_net_type word = bytes_eq word (codes "tri") || (bytes_eq word (codes "supply0") || bytes_eq word (codes "supply1"))

-- a keyword of parameters
abbrev pub is_parameter : List ℕ → Bool
is_parameter word = bytes_eq word (codes "parameter") || bytes_eq word (codes "defparam")

-- a keyword or a simple identifier
abbrev pub word_kind : List ℕ → Kind
word_kind word =
    if is_direction word then Direction
    else (if bytes_eq word (codes "wire") then Wire
    else (if is_net_type word then NetType
    else (if bytes_eq word (codes "assign") then Assign
    else (if bytes_eq word (codes "module") then Module
    else (if bytes_eq word (codes "endmodule") then EndModule
    else (if is_parameter word then Parameter else Identifier))))))

-- a number in decimal digits alone, by its value: a bit has a number up to 2^20
abbrev pub number_kind : ℕ → Kind
number_kind n = if n == 0 then Zero else (if nat_lt n (2 ^ 20) then Small else (if n == 2 ^ 20 then Limit else Large))

-- decimal digits alone
unfoldable pub digits_kind : List ℕ → Kind
digits_kind digits = number_kind (value_of digits)

-- a byte that is a token
abbrev pub mark_kind : ℕ → Kind
mark_kind b =
    if b == 40 then Open
    else (if b == 41 then Close
    else (if b == 91 then OpenSquare
    else (if b == 93 then CloseSquare
    else (if b == 123 then OpenBrace
    else (if b == 125 then CloseBrace
    else (if b == 44 then Comma
    else (if b == 59 then Semicolon
    else (if b == 46 then Dot
    else (if b == 58 then Colon
    else (if b == 61 then Equals
    else (if b == 35 then Hash else Stray)))))))))))

-- a token of this kind, with these bytes
abbrev pub grammar_kind : TokenKind → List ℕ → Kind
grammar_kind Word bytes = word_kind bytes
grammar_kind Escaped bytes = Identifier
grammar_kind Digits bytes = digits_kind bytes
grammar_kind ABased bytes = Based
grammar_kind (Mark b) bytes = mark_kind b
grammar_kind AStray bytes = Stray
grammar_kind Unclosed bytes = Stray

-- a token of a text
abbrev pub kind_in : List ℕ → Token → Kind
kind_in text token = grammar_kind token.kind (part text token.from token.to)

-- the tokens of a text
abbrev pub kinds_of : List ℕ → List Kind
kinds_of text = map (kind_in text) (tokens_of text)
