-- The tokens of a text with what each stands in: of any text, be it a module or not. Source: IEEE Std 1364-2005, annex
-- A.
use Rattle.std.specs.Prelude.{ℕ, ◌<◌, ◌^◌, List, [], ◌∷◌, map}
use Rattle.std.specs.List.{All}
use Rattle.ver_text.specs.declared.kind.Kind.{Kind}
use Rattle.ver_text.specs.declared.kind.Kind.TheVariants.{Module, Direction, Wire, NetType, Assign, Open, Close, Semicolon}
use Rattle.ver_syntax.specs.declared.row.Place.{Place}
use Rattle.ver_syntax.specs.declared.row.Place.TheVariants.{Start, Head, Ports, Declaration, Assignment, Instances, Pins, Connection}
use Rattle.ver_syntax.specs.declared.row.Row.{Row}
use Rattle.ver_text.specs.declared.token.Token.{Token}
use Rattle.ver_text.specs.Kinds.{kind_in}
use Rattle.ver_text.specs.Tokens.{tokens_of}

-- what the tokens of an item stand in after its first
abbrev pub item_after : Kind → Place
item_after Module = Head
item_after Direction = Declaration
item_after Wire = Declaration
item_after NetType = Declaration
item_after Assign = Assignment
item_after Semicolon = Start
item_after _ = Instances

-- what the token after one of this kind stands in: brackets lead into the ports, the connections and a connection, and
-- out
abbrev pub place_after : Place → Kind → Place
place_after Start k = item_after k
place_after place Semicolon = Start
place_after Head Open = Ports
place_after Ports Close = Head
place_after Instances Open = Pins
place_after Pins Open = Connection
place_after Connection Close = Pins
place_after Pins Close = Instances
place_after place _ = place

-- a token of a text, with what it stands in
abbrev pub row : List ℕ → Place → Token → Row
row text place t = record { place = place; kind = kind_in text t; from = t.from; to = t.to }

-- the rows of tokens of a text, the first of which stands in this
unfoldable pub rows_from : List ℕ → Place → List Token → List Row
rows_from text place [] = []
rows_from text place (t ∷ ts) = row text place t ∷ rows_from text (place_after place (kind_in text t)) ts

-- the rows of a text
abbrev pub rows_of : List ℕ → List Row
rows_of text = rows_from text Start (tokens_of text)

-- these tokens stand before the place 2^32
abbrev pub AreLow : List Token → Type 0
AreLow tokens = All (λ t. (t.from < 2 ^ 32) × (t.to < 2 ^ 32)) tokens

-- the kinds of tokens
abbrev pub kinds_in : List Row → List Kind
kinds_in rows = map (λ r. r.kind) rows
