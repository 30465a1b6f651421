-- Which texts are structural modules, and the first fault of a text that is none.
use Rattle.std.specs.Prelude.{◌≡◌, ◌⊎◌, ℕ, zero, suc, ◌-◌, min, Bool, true, false, List, [], ◌∷◌, ◌++◌, length, take, drop, find, MatchOption, None}
use Rattle.grammar_laws.specs.Grammar.{Derives, Begins, IsFault}
use Rattle.vg_scan.specs.Lines.{line_number}
use Rattle.vg_scan.specs.declared.fault.LineFault.{LineFault}
use Rattle.ver_syntax.specs.declared.fault.VerKind.{VerKind}
use Rattle.ver_syntax.specs.declared.fault.VerKind.TheVariants.{Token as IsToken, Grammar, SecondModule, Positional, Parameter as IsParameter, Memory}
use Rattle.ver_text.specs.declared.kind.Kind.{Kind}
use Rattle.ver_text.specs.declared.kind.Kind.TheVariants.{Module, Parameter, Identifier, Open, Dot, Hash}
use Rattle.ver_text.specs.declared.token.Token.{Token}
use Rattle.ver_text.specs.declared.token.TokenKind.{TokenKind}
use Rattle.ver_text.specs.declared.token.TokenKind.TheVariants.{Stray, Unclosed}
use Rattle.ver_syntax.specs.Grammar.{is, rules, module_declaration}
use Rattle.ver_text.specs.Kinds.{kinds_of}
use Rattle.ver_text.specs.Tokens.{tokens_of}

-- the number of the line in which a place stands, or of the last line where the text ends there
abbrev pub line_at : List ℕ → ℕ → ℕ
line_at text place = line_number text (min place (length text - 1))

-- ---- tokens

-- this is no token: a byte that begins none, or a comment or an attribute that does not end
abbrev pub is_bad_kind : TokenKind → Bool
is_bad_kind Stray = true
is_bad_kind Unclosed = true
is_bad_kind _ = false

abbrev pub is_bad : Token → Bool
is_bad token = is_bad_kind token.kind

-- where what is no token is told, by where it begins and where the text ends: what does not end is told at the text's
-- end
abbrev pub told_place : TokenKind → ℕ → ℕ → ℕ
told_place Unclosed from end = end
told_place _ from end = from

abbrev pub told_at : List ℕ → Token → ℕ
told_at text token = told_place token.kind token.from (length text)

-- a fault tells that this is no token
pub record IsTokenFault (text : List ℕ) (fault : LineFault VerKind) (token : Token) : Type 0 where
  pub kind : fault.kind ≡ IsToken
  pub line : fault.line ≡ line_at text (told_at text token)

-- ---- grammar

-- tokens of these kinds are a module
abbrev pub AreModule : List Kind → Type 0
AreModule kinds = Derives rules module_declaration kinds

-- the tokens of a text are a module
abbrev pub IsModule : List ℕ → Type 0
IsModule text = AreModule (kinds_of text)

-- no module begins with tokens of these kinds
abbrev pub BeginNoModule : List Kind → Type 0
BeginNoModule kinds = (rest : List Kind) → AreModule (kinds ++ rest) → ⊥

-- the last of these is of this kind
abbrev pub ends_in : Kind → List Kind → Bool
ends_in kind [] = false
ends_in kind (k ∷ []) = is kind k
ends_in kind (k ∷ j ∷ ks) = ends_in kind (j ∷ ks)

-- after these comes the name of an instance: an identifier may follow an identifier there alone
pub record NamesInstance (before : List Kind) : Type 0 where
  pub cell : ends_in Identifier before ≡ true
  pub name : Begins rules module_declaration (before ++ Identifier ∷ [])

-- after these come the connections of an instance: a `.` may follow a `(` there alone
pub record OpensPins (before : List Kind) : Type 0 where
  pub bracket : ends_in Open before ≡ true
  pub pin : Begins rules module_declaration (before ++ Dot ∷ [])

-- what is wrong with a token that the grammar does not allow after these: values for parameters, connections by order,
-- or neither
abbrev pub IsWrongIn : List Kind → Kind → VerKind → Type 0
IsWrongIn before k kind =
    ((kind ≡ IsParameter) × (k ≡ Hash) × NamesInstance before)
    ⊎ (((kind ≡ Positional) × OpensPins before)
    ⊎ ((kind ≡ Grammar) × ((k ≡ Hash) × NamesInstance before → ⊥) × (OpensPins before → ⊥)))

-- What is wrong where these tokens come after others, and the first of them is not allowed, or the text ends. A second
-- `module` and the keywords of parameters are told as such wherever they stand.
abbrev pub IsWrongAt : List Kind → List Kind → VerKind → Type 0
IsWrongAt before [] kind = kind ≡ Grammar
IsWrongAt before (Module ∷ ks) kind = kind ≡ SecondModule
IsWrongAt before (Parameter ∷ ks) kind = kind ≡ IsParameter
IsWrongAt before (k ∷ ks) kind = IsWrongIn before k kind

-- where a token begins, by its number, or this end where there are not so many
abbrev pub place_of : List Token → ℕ → ℕ → ℕ
place_of [] end n = end
place_of (t ∷ ts) end zero = t.from
place_of (t ∷ ts) end (suc n) = place_of ts end n

-- a fault tells the first token that the grammar does not allow, or the text's end
pub record IsGrammarFault (text : List ℕ) (fault : LineFault VerKind) : Type 0 where
  pub token : ℕ
  pub broken : IsFault rules module_declaration (kinds_of text) token
  pub kind : IsWrongAt (take token (kinds_of text)) (drop token (kinds_of text)) fault.kind
  pub line : fault.line ≡ line_at text (place_of (tokens_of text) (length text) token)

-- a text has no fault of its tokens
abbrev pub HasTokens : List ℕ → Type 0
HasTokens text = find is_bad (tokens_of text) ≡ None

-- the first fault of a text: what is no token comes before all else
abbrev pub IsFirstFault : List ℕ → LineFault VerKind → Type 0
IsFirstFault text fault =
    MatchOption (find is_bad (tokens_of text)) (IsGrammarFault text fault) (IsTokenFault text fault)

-- there was no room
pub record IsOutOfMemory (fault : LineFault VerKind) : Type 0 where
  pub kind : fault.kind ≡ Memory
  pub line : fault.line ≡ 1
