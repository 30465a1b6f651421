-- The text of a net is read again, whatever stands before it and after it.
use Rattle.std.specs.Prelude.{◌≡◌, ℕ, ◌+◌, ◌<◌, ◌^◌, Bool, true, false, List, [], ◌∷◌, ◌++◌, length, Option, Some, None, IfSome}
use Rattle.std.specs.Fmt.{decimal}
use Rattle.std.specs.List.{list_all}
use Rattle.vg_num.specs.Number.{value_of}
use Rattle.vg_scan.specs.Lines.{part}
use Rattle.ver_text.specs.declared.kind.Kind.TheVariants.{Identifier}
use Rattle.ver_text.specs.declared.token.Token.{Token}
use Rattle.ver_text.specs.declared.token.TokenKind.{TokenKind}
use Rattle.ver_text.specs.declared.token.TokenKind.TheVariants.{Word, Escaped, Digits, Mark}
use Rattle.ver_text.specs.Bytes.{is_printable, is_word_byte}
use Rattle.ver_text.specs.Kinds.{kind_in}
use Rattle.ver_text.specs.Names.{is_simple, name_of}
use Rattle.ver_text.specs.Tokens.{tokens_from}
use Rattle.ver_text.specs.Written.{begins_with}
use Rattle.ver_module.specs.Netlists.{Net}
use Rattle.ver_net.specs.Texts.{identifier_text, text_of}

-- a net has an identifier that can be written as it says: a simple one, or with a backslash some bytes that are printed
pub record IsWritable (net : Net) : Type 0 where
  pub plain : net.escaped ≡ false → is_simple net.base ≡ true
  pub some : 0 < length net.base
  pub printable : net.escaped ≡ true → list_all is_printable net.base ≡ true
  pub few : IfSome net.bit (λ bit. bit < 2 ^ 32)

-- a token that begins here and has so many bytes
abbrev pub token_at : TokenKind → ℕ → ℕ → Token
token_at kind at count = record { kind = kind; from = at; to = at + count }

-- an identifier whose name has so many bytes
abbrev pub identifier_at : Bool → ℕ → ℕ → Token
identifier_at true at count = token_at Escaped at (1 + count)
identifier_at false at count = token_at Word at count

-- a `[`, digits and a `]`, where a bit is selected
abbrev pub select_at : Option ℕ → ℕ → List Token
select_at None at = []
select_at (Some bit) at =
    token_at (Mark 91) at 1 ∷ token_at Digits (at + 1) (length (decimal bit))
    ∷ token_at (Mark 93) (at + 1 + length (decimal bit)) 1 ∷ []

-- where the select of a net begins that begins here
abbrev pub select_place : Net → ℕ → ℕ
select_place net at = at + length (identifier_text net.escaped net.base)

-- the tokens of a net that begins here
abbrev pub tokens_of_net : Net → ℕ → List Token
tokens_of_net net at = identifier_at net.escaped at (length net.base) ∷ select_at net.bit (select_place net at)

-- In a text stands the net at a place: an identifier that gives the name of its own, and for a bit digits that write
-- its number.
pub record IsReadAt (text : List ℕ) (at : ℕ) (net : Net) : Type 0 where
  pub kind : kind_in text (identifier_at net.escaped at (length net.base)) ≡ Identifier
  pub name : name_of (part text at (identifier_at net.escaped at (length net.base)).to) ≡ net.base
  pub number : IfSome net.bit (λ bit.
      value_of (part text (select_place net at + 1) (select_place net at + 1 + length (decimal bit))) ≡ bit)

-- from a place on, the text of a net is its tokens
abbrev pub NetsAreTokens : Type 0
NetsAreTokens =
    (at : ℕ) (net : Net) (rest : List ℕ) → IsWritable net → begins_with is_word_byte rest ≡ false
    → tokens_from 0 at (text_of net ++ rest) ≡ tokens_of_net net at ++ tokens_from 0 (at + length (text_of net)) rest

-- and they name the net
abbrev pub NetsAreNamed : Type 0
NetsAreNamed =
    (before rest : List ℕ) (net : Net) → IsWritable net → IsReadAt (before ++ text_of net ++ rest) (length before) net
