-- The statements of a text in their order, each with the group around it: of any text, be it a library or not. Source:
-- Liberty User Guide, Synopsys: a group has a name, arguments and statements, a simple attribute a name and a value,
-- and a complex attribute a name and arguments.
use Rattle.std.specs.Prelude.{ℕ, ◌==◌, ◌&&◌, Bool, false, List, [], ◌∷◌, ◌++◌, if◌then◌else◌}
use Rattle.lib_text.specs.declared.token.Token.{Token}
use Rattle.lib_text.specs.declared.token.TokenKind.{TokenKind}
use Rattle.lib_text.specs.declared.token.TokenKind.TheVariants.{Word, Value, List as IsList, Mark}
use Rattle.lib_text.specs.declared.statement.Statement.{Statement}
use Rattle.lib_text.specs.declared.statement.Form.{Form}
use Rattle.lib_text.specs.declared.statement.Form.TheVariants.{Simple, Complex, Group}
use Rattle.lib_text.specs.Tokens.{tokens_of}

-- a token is this byte
abbrev pub is_byte : ℕ → TokenKind → Bool
is_byte b (Mark c) = c == b
is_byte b _ = false

-- these tokens begin with `)` and `{`
abbrev pub open_group : List Token → Bool
open_group [] = false
open_group (t ∷ []) = false
open_group (t ∷ u ∷ ts) = is_byte 41 t.kind && is_byte 123 u.kind

-- a statement with arguments, by the tokens after these
abbrev pub form_before : List Token → Form
form_before ts = if open_group ts then Group else Complex

-- the statement whose value or arguments are this token
abbrev pub statement : ℕ → Form → ℕ → Token → Statement
statement group form name t = record { group = group; form = form; name = name; from = t.from; to = t.to }

-- the statement that a token adds to a group, with the name read last, before these tokens
abbrev pub added : TokenKind → ℕ → ℕ → Token → List Token → List Statement
added Value group name t ts = statement group Simple name t ∷ []
added IsList group name t ts = statement group (form_before ts) name t ∷ []
added _ group name t ts = []

-- the innermost of the groups that are open, the innermost first, each by where its name begins
abbrev pub top : List ℕ → ℕ
top [] = 0
top (p ∷ ps) = p

-- without the innermost
abbrev pub pop : List ℕ → List ℕ
pop [] = []
pop (p ∷ ps) = ps

-- the groups that are open after a token: a `{` opens the group whose name was read last, a `}` ends the innermost one
abbrev pub open_after : TokenKind → List ℕ → ℕ → List ℕ
open_after (Mark b) groups name = if b == 123 then name ∷ groups else (if b == 125 then pop groups else groups)
open_after _ groups name = groups

-- where the name begins that was read last
abbrev pub name_after : TokenKind → Token → ℕ → ℕ
name_after Word t name = t.from
name_after _ t name = name

-- the statements of tokens, given the groups that are open and the name read last
unfoldable pub statements_from : List ℕ → ℕ → List Token → List Statement
statements_from groups name [] = []
statements_from groups name (t ∷ ts) =
    added t.kind (top groups) name t ts ++ statements_from (open_after t.kind groups name) (name_after t.kind t name) ts

-- the statements of a text
abbrev pub statements_of : List ℕ → List Statement
statements_of text = statements_from [] 0 (tokens_of text)
