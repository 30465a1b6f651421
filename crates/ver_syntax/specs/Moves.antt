-- How the machine goes on, token by token, and which ways of the grammar each place stands for: for the functions
-- between.
use Rattle.std.specs.Prelude.{Bool, true, false, List, [], ◌∷◌, Option, Some, None, if◌then◌else◌}
use Rattle.grammar_laws.specs.Grammar.{Part}
use Rattle.grammar_laws.specs.Grammar.Part.{one, many, named}
use Rattle.ver_syntax.specs.Grammar.{Name, the, is_index, is_below_limit, is_positive, seq, opt, more, list_of, bounds, range, port, ports, select, in_braces, assignment, pin, instance, item, module_declaration}
use Rattle.ver_syntax.specs.Grammar.Name.{expression}
use Rattle.ver_syntax.specs.declared.fault.VerKind.{VerKind}
use Rattle.ver_syntax.specs.declared.fault.VerKind.TheVariants.{SecondModule, Positional, Parameter as OfParameter, Grammar as OfGrammar}
use Rattle.ver_text.specs.declared.kind.Kind.{Kind}
use Rattle.ver_text.specs.declared.kind.Kind.TheVariants.{Module, EndModule, Direction, Wire, NetType, Assign, Parameter, Identifier, Zero, Small, Limit, Large, Based, Open, Close, OpenSquare, CloseSquare, OpenBrace, CloseBrace, Comma, Semicolon, Dot, Colon, Equals, Hash}
use Rattle.ver_syntax.specs.declared.state.Head.{Head}
use Rattle.ver_syntax.specs.declared.state.Head.TheVariants.{Start as HeadStart, Module as HeadModule, Name as HeadName, Ports, Direction as PortDirection, Wire as PortWire, Range as PortRange, Port, Comma as PortComma, End as HeadEnd}
use Rattle.ver_syntax.specs.declared.state.Item.{Item}
use Rattle.ver_syntax.specs.declared.state.Item.TheVariants.{Start as ItemStart, Direction as ItemDirection, Net, Next, Name as ItemName, Over}
use Rattle.ver_syntax.specs.declared.state.Owner.{Owner}
use Rattle.ver_syntax.specs.declared.state.Owner.TheVariants.{Port as OfPort, Item as OfItem}
use Rattle.ver_syntax.specs.declared.state.Bound.{Bound}
use Rattle.ver_syntax.specs.declared.state.Bound.TheVariants.{Zero as FromZero, Small as FromSmall, Limit as FromLimit}
use Rattle.ver_syntax.specs.declared.state.Range.{Range}
use Rattle.ver_syntax.specs.declared.state.Range.TheVariants.{Open as RangeOpen, First, Colon as RangeColon, Second}
use Rattle.ver_syntax.specs.declared.state.Instance.{Instance}
use Rattle.ver_syntax.specs.declared.state.Instance.TheVariants.{Cell, Comma as InstanceComma, Name as InstanceName, Pins, PinComma, Dot as PinDot, Pin as PinName, Connection, PinEnd, End as InstanceEnd}
use Rattle.ver_syntax.specs.declared.state.Expr.{Expr}
use Rattle.ver_syntax.specs.declared.state.Expr.TheVariants.{Start as ExprStart, Name as ExprName, Select, Bit, Colon as SelectColon, Last, End as ExprEnd, Brace as BraceOpen, Digits, Repeated}
use Rattle.ver_syntax.specs.declared.state.Role.{Role}
use Rattle.ver_syntax.specs.declared.state.Role.TheVariants.{Left, Right, Pin as OfPin}
use Rattle.ver_syntax.specs.declared.state.Brace.{Brace}
use Rattle.ver_syntax.specs.declared.state.Brace.TheVariants.{List as InList, Repeat}
use Rattle.ver_syntax.specs.declared.state.At.{At}
use Rattle.ver_syntax.specs.declared.state.At.TheVariants.{Head as AtHead, Range as AtRange, Item as AtItem, Instance as AtInstance, Expr as AtExpr}

-- a place, and the braces that are open there, the innermost first
pub record State : Type 0 where
  pub at : At
  pub open_braces : List Brace

-- ---- ways

abbrev pub Way : Type 0
Way = List (Part Name Kind)

-- the items that come
abbrev pub items : Way
items = many item ∷ the EndModule ∷ []

-- what comes after the list of ports, after a port, after an identifier of a declaration, after a connection, and after
-- an instance
abbrev pub after_ports : Way
after_ports = the Semicolon ∷ items

abbrev pub after_port : Way
after_port = more port ∷ the Close ∷ after_ports

abbrev pub after_name : Way
after_name = more (the Identifier) ∷ the Semicolon ∷ items

abbrev pub after_instance : Way
after_instance = more instance ∷ the Semicolon ∷ items

abbrev pub after_pin : Way
after_pin = more pin ∷ the Close ∷ after_instance

abbrev pub head_way : Head → Way
head_way HeadStart = module_declaration ∷ []
head_way HeadModule = the Identifier ∷ opt ports ∷ after_ports
head_way HeadName = opt ports ∷ after_ports
head_way Ports = opt (list_of port) ∷ the Close ∷ after_ports
head_way PortDirection = opt (the Wire) ∷ opt range ∷ the Identifier ∷ after_port
head_way PortWire = opt range ∷ the Identifier ∷ after_port
head_way PortRange = the Identifier ∷ after_port
head_way Port = after_port
head_way PortComma = port ∷ after_port
head_way HeadEnd = after_ports

abbrev pub item_way : Item → Way
item_way ItemStart = items
item_way ItemDirection = opt (the Wire) ∷ opt range ∷ the Identifier ∷ after_name
item_way Net = opt range ∷ the Identifier ∷ after_name
item_way Next = the Identifier ∷ after_name
item_way ItemName = after_name
item_way Over = []

-- what comes after a range
abbrev pub after_range : Owner → Way
after_range OfPort = the Identifier ∷ after_port
after_range OfItem = the Identifier ∷ after_name

-- which second bounds there are
abbrev pub second_bound : Bound → Kind → Bool
second_bound FromZero k = is_below_limit k
second_bound FromSmall k = is_index k
second_bound FromLimit k = is_positive k

abbrev pub range_way : Owner → Range → Way
range_way owner RangeOpen = bounds ∷ the CloseSquare ∷ after_range owner
range_way owner (First bound) = the Colon ∷ one (second_bound bound) ∷ the CloseSquare ∷ after_range owner
range_way owner (RangeColon bound) = one (second_bound bound) ∷ the CloseSquare ∷ after_range owner
range_way owner Second = the CloseSquare ∷ after_range owner

abbrev pub instance_way : Instance → Way
instance_way Cell = the Identifier ∷ the Open ∷ opt (list_of pin) ∷ the Close ∷ after_instance
instance_way InstanceComma = the Identifier ∷ the Open ∷ opt (list_of pin) ∷ the Close ∷ after_instance
instance_way InstanceName = the Open ∷ opt (list_of pin) ∷ the Close ∷ after_instance
instance_way Pins = opt (list_of pin) ∷ the Close ∷ after_instance
instance_way PinComma = the Dot ∷ the Identifier ∷ the Open ∷ opt (named expression) ∷ the Close ∷ after_pin
instance_way PinDot = the Identifier ∷ the Open ∷ opt (named expression) ∷ the Close ∷ after_pin
instance_way PinName = the Open ∷ opt (named expression) ∷ the Close ∷ after_pin
instance_way Connection = opt (named expression) ∷ the Close ∷ after_pin
instance_way PinEnd = after_pin
instance_way InstanceEnd = after_instance

-- what comes after the outermost expression
abbrev pub after_role : Role → Way
after_role Left = the Equals ∷ named expression ∷ more assignment ∷ the Semicolon ∷ items
after_role Right = more assignment ∷ the Semicolon ∷ items
after_role OfPin = the Close ∷ after_pin

-- what comes after an expression
abbrev pub after_expr : Role → List Brace → Way
after_expr role [] = after_role role
after_expr role (InList ∷ bs) = more (named expression) ∷ the CloseBrace ∷ after_expr role bs
after_expr role (Repeat ∷ bs) = the CloseBrace ∷ the CloseBrace ∷ after_expr role bs

abbrev pub expr_ways : Expr → Way → List Way
expr_ways ExprStart rest = (named expression ∷ rest) ∷ []
expr_ways ExprName rest = (opt select ∷ rest) ∷ []
expr_ways Select rest = (one is_index ∷ opt (seq (the Colon ∷ one is_index ∷ [])) ∷ the CloseSquare ∷ rest) ∷ []
expr_ways Bit rest = (opt (seq (the Colon ∷ one is_index ∷ [])) ∷ the CloseSquare ∷ rest) ∷ []
expr_ways SelectColon rest = (one is_index ∷ the CloseSquare ∷ rest) ∷ []
expr_ways Last rest = (the CloseSquare ∷ rest) ∷ []
expr_ways ExprEnd rest = rest ∷ []
expr_ways BraceOpen rest = (in_braces ∷ the CloseBrace ∷ rest) ∷ []
expr_ways Digits rest =
    (more (named expression) ∷ the CloseBrace ∷ rest)
    ∷ (the OpenBrace ∷ named expression ∷ the CloseBrace ∷ the CloseBrace ∷ rest)
    ∷ []
expr_ways Repeated rest = (the CloseBrace ∷ rest) ∷ []

-- the ways on from each place
abbrev pub ways_at : At → List Brace → List Way
ways_at (AtHead at) bs = head_way at ∷ []
ways_at (AtItem at) bs = item_way at ∷ []
ways_at (AtRange owner at) bs = range_way owner at ∷ []
ways_at (AtInstance at) bs = instance_way at ∷ []
ways_at (AtExpr role at) bs = expr_ways at (after_expr role bs)

-- the ways on from a state of the machine
abbrev pub ways : State → List Way
ways s = ways_at s.at s.open_braces

-- ---- moves

-- the machine stands at this place, where such braces are open
abbrev pub goes : At → List Brace → Option State
goes at bs = Some (record { at = at; open_braces = bs })

-- the machine stands at this place, if any, where such braces are open
abbrev pub gives : Option At → List Brace → Option State
gives None bs = None
gives (Some at) bs = goes at bs

abbrev pub head : Head → Option At
head at = Some (AtHead at)

abbrev pub in_range : Owner → Range → Option At
in_range owner at = Some (AtRange owner at)

abbrev pub in_item : Item → Option At
in_item at = Some (AtItem at)

abbrev pub in_instance : Instance → Option At
in_instance at = Some (AtInstance at)

abbrev pub in_expr : Role → Expr → Option At
in_expr role at = Some (AtExpr role at)

-- in the head
abbrev pub head_move : Head → Kind → Option At
head_move HeadStart Module = head HeadModule
head_move HeadModule Identifier = head HeadName
head_move HeadName Open = head Ports
head_move HeadName Semicolon = in_item ItemStart
head_move Ports Identifier = head Port
head_move Ports Direction = head PortDirection
head_move Ports Close = head HeadEnd
head_move PortDirection Wire = head PortWire
head_move PortDirection OpenSquare = in_range OfPort RangeOpen
head_move PortDirection Identifier = head Port
head_move PortWire OpenSquare = in_range OfPort RangeOpen
head_move PortWire Identifier = head Port
head_move PortRange Identifier = head Port
head_move Port Comma = head PortComma
head_move Port Close = head HeadEnd
head_move PortComma Identifier = head Port
head_move PortComma Direction = head PortDirection
head_move HeadEnd Semicolon = in_item ItemStart
head_move _ _ = None

-- among the items
abbrev pub item_move : Item → Kind → Option At
item_move ItemStart Direction = in_item ItemDirection
item_move ItemStart Wire = in_item Net
item_move ItemStart NetType = in_item Net
item_move ItemStart Assign = in_expr Left ExprStart
item_move ItemStart Identifier = in_instance Cell
item_move ItemStart EndModule = in_item Over
item_move ItemDirection Wire = in_item Net
item_move ItemDirection OpenSquare = in_range OfItem RangeOpen
item_move ItemDirection Identifier = in_item ItemName
item_move Net OpenSquare = in_range OfItem RangeOpen
item_move Net Identifier = in_item ItemName
item_move Next Identifier = in_item ItemName
item_move ItemName Comma = in_item Next
item_move ItemName Semicolon = in_item ItemStart
item_move _ _ = None

-- where the machine goes on after a range
abbrev pub past_range : Owner → Option At
past_range OfPort = head PortRange
past_range OfItem = in_item Next

-- after the `:` of a range
abbrev pub bound_move : Owner → Bound → Kind → Option At
bound_move owner FromZero Zero = in_range owner Second
bound_move owner FromZero Small = in_range owner Second
bound_move owner FromSmall Zero = in_range owner Second
bound_move owner FromSmall Small = in_range owner Second
bound_move owner FromSmall Limit = in_range owner Second
bound_move owner FromLimit Small = in_range owner Second
bound_move owner FromLimit Limit = in_range owner Second
bound_move owner _ _ = None

-- in a range
abbrev pub range_move : Owner → Range → Kind → Option At
range_move owner RangeOpen Zero = in_range owner (First FromZero)
range_move owner RangeOpen Small = in_range owner (First FromSmall)
range_move owner RangeOpen Limit = in_range owner (First FromLimit)
range_move owner (First bound) Colon = in_range owner (RangeColon bound)
range_move owner (RangeColon bound) k = bound_move owner bound k
range_move owner Second CloseSquare = past_range owner
range_move owner _ _ = None

-- after the first token of an expression
abbrev pub first_move : Role → Kind → Option At
first_move role Identifier = in_expr role ExprName
first_move role Zero = in_expr role ExprEnd
first_move role Small = in_expr role ExprEnd
first_move role Limit = in_expr role ExprEnd
first_move role Large = in_expr role ExprEnd
first_move role Based = in_expr role ExprEnd
first_move role OpenBrace = in_expr role BraceOpen
first_move role _ = None

-- in an instance
abbrev pub instance_move : Instance → Kind → Option At
instance_move Cell Identifier = in_instance InstanceName
instance_move InstanceComma Identifier = in_instance InstanceName
instance_move InstanceName Open = in_instance Pins
instance_move Pins Dot = in_instance PinDot
instance_move Pins Close = in_instance InstanceEnd
instance_move PinComma Dot = in_instance PinDot
instance_move PinDot Identifier = in_instance PinName
instance_move PinName Open = in_instance Connection
instance_move Connection Close = in_instance PinEnd
instance_move Connection k = first_move OfPin k
instance_move PinEnd Comma = in_instance PinComma
instance_move PinEnd Close = in_instance InstanceEnd
instance_move InstanceEnd Comma = in_instance InstanceComma
instance_move InstanceEnd Semicolon = in_item ItemStart
instance_move _ _ = None

-- after the outermost expression
abbrev pub role_move : Role → Kind → Option At
role_move Left Equals = in_expr Right ExprStart
role_move Right Comma = in_expr Left ExprStart
role_move Right Semicolon = in_item ItemStart
role_move OfPin Close = in_instance PinEnd
role_move _ _ = None

-- after an expression
abbrev pub end_move : Role → Kind → List Brace → Option State
end_move role k [] = gives (role_move role k) []
end_move role Comma (InList ∷ bs) = goes (AtExpr role ExprStart) (InList ∷ bs)
end_move role CloseBrace (InList ∷ bs) = goes (AtExpr role ExprEnd) bs
end_move role CloseBrace (Repeat ∷ bs) = goes (AtExpr role Repeated) bs
end_move role k (b ∷ bs) = None

-- in a bit or a part of a vector, or after the inner `}` of a replication
abbrev pub select_move : Role → Expr → Kind → Option At
select_move role Select Zero = in_expr role Bit
select_move role Select Small = in_expr role Bit
select_move role Select Limit = in_expr role Bit
select_move role Bit Colon = in_expr role SelectColon
select_move role Bit CloseSquare = in_expr role ExprEnd
select_move role SelectColon Zero = in_expr role Last
select_move role SelectColon Small = in_expr role Last
select_move role SelectColon Limit = in_expr role Last
select_move role Last CloseSquare = in_expr role ExprEnd
select_move role Repeated CloseBrace = in_expr role ExprEnd
select_move role _ _ = None

-- after a `{`
abbrev pub brace_move : Role → Kind → List Brace → Option State
brace_move role Zero bs = goes (AtExpr role Digits) bs
brace_move role Small bs = goes (AtExpr role Digits) bs
brace_move role Limit bs = goes (AtExpr role Digits) bs
brace_move role Large bs = goes (AtExpr role Digits) bs
brace_move role k bs = gives (first_move role k) (InList ∷ bs)

-- after digits that follow a `{`
abbrev pub digits_move : Role → Kind → List Brace → Option State
digits_move role Comma bs = goes (AtExpr role ExprStart) (InList ∷ bs)
digits_move role CloseBrace bs = goes (AtExpr role ExprEnd) bs
digits_move role OpenBrace bs = goes (AtExpr role ExprStart) (Repeat ∷ bs)
digits_move role _ bs = None

-- in an expression
abbrev pub expr_move : Role → Expr → Kind → List Brace → Option State
expr_move role ExprStart k bs = gives (first_move role k) bs
expr_move role ExprName OpenSquare bs = goes (AtExpr role Select) bs
expr_move role ExprName k bs = end_move role k bs
expr_move role ExprEnd k bs = end_move role k bs
expr_move role BraceOpen k bs = brace_move role k bs
expr_move role Digits k bs = digits_move role k bs
expr_move role at k bs = gives (select_move role at k) bs

-- outside expressions
abbrev pub plain_move : At → Kind → Option At
plain_move (AtHead at) k = head_move at k
plain_move (AtItem at) k = item_move at k
plain_move (AtRange owner at) k = range_move owner at k
plain_move (AtInstance at) k = instance_move at k
plain_move (AtExpr role at) k = None

-- where a token leads from each place; `None`: it is not allowed there
abbrev pub move : At → Kind → List Brace → Option State
move (AtExpr role at) k bs = expr_move role at k bs
move at k bs = gives (plain_move at k) []

-- where a token leads from a state of the machine
abbrev pub next : State → Kind → Option State
next s k = move s.at k s.open_braces

-- the text may end in a state of the machine
abbrev pub is_done_at : At → Bool
is_done_at (AtItem Over) = true
is_done_at _ = false

abbrev pub is_done : State → Bool
is_done s = is_done_at s.at

-- ---- faults

-- the machine stands after the identifier of the module or gate of an instance
abbrev pub is_cell : At → Bool
is_cell (AtInstance Cell) = true
is_cell _ = false

-- it stands after the `(` of the connections of an instance
abbrev pub is_pins : At → Bool
is_pins (AtInstance Pins) = true
is_pins _ = false

-- it stands after an identifier
abbrev pub is_named : At → Bool
is_named (AtHead HeadName) = true
is_named (AtHead Port) = true
is_named (AtItem ItemName) = true
is_named (AtInstance Cell) = true
is_named (AtInstance InstanceName) = true
is_named (AtInstance PinName) = true
is_named (AtExpr role ExprName) = true
is_named _ = false

-- it stands after a `(`
abbrev pub is_opened : At → Bool
is_opened (AtHead Ports) = true
is_opened (AtInstance Pins) = true
is_opened (AtInstance Connection) = true
is_opened _ = false

-- what is wrong with a token that is not allowed and is no keyword
abbrev pub pins_kind : At → VerKind
pins_kind at = if is_pins at then Positional else OfGrammar

-- what is wrong with a token that is not allowed
abbrev pub fault_kind : At → Kind → VerKind
fault_kind at Module = SecondModule
fault_kind at Parameter = OfParameter
fault_kind at Hash = if is_cell at then OfParameter else pins_kind at
fault_kind at k = pins_kind at
