-- The grammar of a structural module, over kinds of tokens. Source: IEEE Std 1364-2005, annex A: a module declaration
-- whose items are declarations of ports and nets, continuous assignments of nets, and instances with connections by
-- name.
use Rattle.std.specs.Prelude.{Bool, true, false, List, [], ◌∷◌}
use Rattle.grammar_laws.specs.Grammar.{Part}
use Rattle.grammar_laws.specs.Grammar.Part.{one, nothing, both, either, many, named}
use Rattle.ver_text.specs.declared.kind.Kind.{Kind}
use Rattle.ver_text.specs.declared.kind.Kind.TheVariants.{Module, EndModule, Direction, Wire, NetType, Assign, Parameter, Identifier, Zero, Small, Limit, Large, Based, Open, Close, OpenSquare, CloseSquare, OpenBrace, CloseBrace, Comma, Semicolon, Dot, Colon, Equals, Hash, Stray}

-- the only rule that uses its own name
pub data Name : Type 0 where
  expression : Name

-- ---- tokens

-- a token is of a kind
abbrev pub is : Kind → Kind → Bool
is Module Module = true
is EndModule EndModule = true
is Direction Direction = true
is Wire Wire = true
is NetType NetType = true
is Assign Assign = true
is Parameter Parameter = true
is Identifier Identifier = true
is Zero Zero = true
is Small Small = true
is Limit Limit = true
is Large Large = true
is Based Based = true
is Open Open = true
is Close Close = true
is OpenSquare OpenSquare = true
is CloseSquare CloseSquare = true
is OpenBrace OpenBrace = true
is CloseBrace CloseBrace = true
is Comma Comma = true
is Semicolon Semicolon = true
is Dot Dot = true
is Colon Colon = true
is Equals Equals = true
is Hash Hash = true
is Stray Stray = true
is _ _ = false

-- a token of this kind
abbrev pub the : Kind → Part Name Kind
the k = one (is k)

-- `wire` or another type of nets
abbrev pub is_net : Kind → Bool
is_net Wire = true
is_net NetType = true
is_net _ = false

-- a number in decimal digits alone
abbrev pub is_digits : Kind → Bool
is_digits Zero = true
is_digits Small = true
is_digits Limit = true
is_digits Large = true
is_digits _ = false

-- a number
abbrev pub is_number : Kind → Bool
is_number Based = true
is_number k = is_digits k

-- the number of a bit: at most 2^20
abbrev pub is_index : Kind → Bool
is_index Zero = true
is_index Small = true
is_index Limit = true
is_index _ = false

-- such a number below 2^20
abbrev pub is_below_limit : Kind → Bool
is_below_limit Zero = true
is_below_limit Small = true
is_below_limit _ = false

-- such a number above 0
abbrev pub is_positive : Kind → Bool
is_positive Small = true
is_positive Limit = true
is_positive _ = false

-- ---- parts

-- parts one after another
abbrev pub seq : List (Part Name Kind) → Part Name Kind
seq [] = nothing
seq (a ∷ rest) = both a (seq rest)

-- one of some parts
abbrev pub any : List (Part Name Kind) → Part Name Kind
any [] = nothing
any (a ∷ []) = a
any (a ∷ b ∷ rest) = either a (any (b ∷ rest))

-- a part or nothing
abbrev pub opt : Part Name Kind → Part Name Kind
opt a = either a nothing

-- more of a part, each after a comma
abbrev pub more : Part Name Kind → Part Name Kind
more a = many (seq (the Comma ∷ a ∷ []))

-- one of a part or more, with commas between
abbrev pub list_of : Part Name Kind → Part Name Kind
list_of a = both a (more a)

-- ---- declarations

-- the bounds of a vector of at most 2^20 bits: its bits have numbers up to 2^20, but not all of them
abbrev pub bounds : Part Name Kind
bounds =
    any (
    seq (the Zero ∷ the Colon ∷ one is_below_limit ∷ [])
    ∷ seq (the Small ∷ the Colon ∷ one is_index ∷ [])
    ∷ seq (the Limit ∷ the Colon ∷ one is_positive ∷ [])
    ∷ []
    )

-- the range of a vector
abbrev pub range : Part Name Kind
range = seq (the OpenSquare ∷ bounds ∷ the CloseSquare ∷ [])

-- a port in the list of a module's ports
abbrev pub port : Part Name Kind
port = either (the Identifier) (seq (the Direction ∷ opt (the Wire) ∷ opt range ∷ the Identifier ∷ []))

-- the list of a module's ports, in its brackets
abbrev pub ports : Part Name Kind
ports = seq (the Open ∷ opt (list_of port) ∷ the Close ∷ [])

-- a declaration of ports
abbrev pub port_declaration : Part Name Kind
port_declaration = seq (the Direction ∷ opt (the Wire) ∷ opt range ∷ list_of (the Identifier) ∷ the Semicolon ∷ [])

-- a declaration of nets
abbrev pub net_declaration : Part Name Kind
net_declaration = seq (one is_net ∷ opt range ∷ list_of (the Identifier) ∷ the Semicolon ∷ [])

-- ---- expressions

-- a bit or a part of a vector, in its brackets
abbrev pub select : Part Name Kind
select = seq (the OpenSquare ∷ one is_index ∷ opt (seq (the Colon ∷ one is_index ∷ [])) ∷ the CloseSquare ∷ [])

-- what stands in the outer braces of a replication
abbrev pub replication : Part Name Kind
replication = seq (one is_digits ∷ the OpenBrace ∷ named expression ∷ the CloseBrace ∷ [])

-- what stands in braces: a concatenation or a replication
abbrev pub in_braces : Part Name Kind
in_braces = either (list_of (named expression)) replication

-- an expression: an identifier, a bit or a part of one, a number, or expressions in braces
abbrev pub rules : Name → Part Name Kind
rules expression =
    any (
    seq (the Identifier ∷ opt select ∷ [])
    ∷ one is_number
    ∷ seq (the OpenBrace ∷ in_braces ∷ the CloseBrace ∷ [])
    ∷ []
    )

-- ---- items

-- one assignment of nets
abbrev pub assignment : Part Name Kind
assignment = seq (named expression ∷ the Equals ∷ named expression ∷ [])

-- a continuous assignment
abbrev pub continuous_assign : Part Name Kind
continuous_assign = seq (the Assign ∷ list_of assignment ∷ the Semicolon ∷ [])

-- a connection by name
abbrev pub pin : Part Name Kind
pin = seq (the Dot ∷ the Identifier ∷ the Open ∷ opt (named expression) ∷ the Close ∷ [])

-- an instance, after the identifier of its module or gate
abbrev pub instance : Part Name Kind
instance = seq (the Identifier ∷ the Open ∷ opt (list_of pin) ∷ the Close ∷ [])

-- instances of one module or gate
abbrev pub instantiation : Part Name Kind
instantiation = seq (the Identifier ∷ list_of instance ∷ the Semicolon ∷ [])

-- an item of a module
abbrev pub item : Part Name Kind
item = any (port_declaration ∷ net_declaration ∷ continuous_assign ∷ instantiation ∷ [])

-- a module, and nothing after it
abbrev pub module_declaration : Part Name Kind
module_declaration = seq (the Module ∷ the Identifier ∷ opt ports ∷ the Semicolon ∷ many item ∷ the EndModule ∷ [])
