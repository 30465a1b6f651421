-- The machine goes on as the grammar does, place by place.
use Rattle.std.proofs.Common.{◌≡◌, true, List, [], ◌∷◌, refl}
use Rattle.grammar_laws.specs.Ways.{after_any, can_stop}
use Rattle.grammar_laws.specs.Machines.{ways_of, has_way, IsMachine}
use Rattle.ver_syntax.specs.Grammar.{rules}
use Rattle.ver_syntax.specs.Grammar.Name.{expression}
use Rattle.ver_syntax.specs.Moves.{head_way, item_way, range_way, instance_way, after_expr, expr_ways, ways_at, ways, gives, head_move, item_move, range_move, instance_move, end_move, expr_move, move, next, is_done_at, is_done}
use Rattle.ver_text.specs.declared.kind.Kind.{Kind}
use Rattle.ver_text.specs.declared.kind.Kind.TheVariants.{Module}
use Rattle.ver_syntax.specs.declared.state.Head.{Head}
use Rattle.ver_syntax.specs.declared.state.Head.TheVariants.{Start as HeadStart, Module as HeadModule, Name as HeadName, Ports, Direction as PortDirection, Wire as PortWire, Range as PortRange, Port, Comma as PortComma, End as HeadEnd}
use Rattle.ver_syntax.specs.declared.state.Item.{Item}
use Rattle.ver_syntax.specs.declared.state.Item.TheVariants.{Start as ItemStart, Direction as ItemDirection, Net, Next, Name as ItemName, Over}
use Rattle.ver_syntax.specs.declared.state.Owner.{Owner}
use Rattle.ver_syntax.specs.declared.state.Owner.TheVariants.{Port as OfPort, Item as OfItem}
use Rattle.ver_syntax.specs.declared.state.Bound.TheVariants.{Zero as FromZero, Small as FromSmall, Limit as FromLimit}
use Rattle.ver_syntax.specs.declared.state.Range.{Range}
use Rattle.ver_syntax.specs.declared.state.Range.TheVariants.{Open as RangeOpen, First, Colon as RangeColon, Second}
use Rattle.ver_syntax.specs.declared.state.Instance.{Instance}
use Rattle.ver_syntax.specs.declared.state.Instance.TheVariants.{Cell, Comma as InstanceComma, Name as InstanceName, Pins, PinComma, Dot as PinDot, Pin as PinName, Connection, PinEnd, End as InstanceEnd}
use Rattle.ver_syntax.specs.declared.state.Expr.{Expr}
use Rattle.ver_syntax.specs.declared.state.Expr.TheVariants.{Start as ExprStart, Name as ExprName, Select, Bit, Colon as SelectColon, Last, End as ExprEnd, Brace as BraceOpen, Digits, Repeated}
use Rattle.ver_syntax.specs.declared.state.Role.{Role}
use Rattle.ver_syntax.specs.declared.state.Role.TheVariants.{Left, Right, Pin as OfPin}
use Rattle.ver_syntax.specs.declared.state.Brace.{Brace}
use Rattle.ver_syntax.specs.declared.state.Brace.TheVariants.{List as InList, Repeat}
use Rattle.ver_syntax.specs.declared.state.At.{At}
use Rattle.ver_syntax.specs.declared.state.At.TheVariants.{Head as AtHead, Range as AtRange, Item as AtItem, Instance as AtInstance, Expr as AtExpr}

head_moves : (at : Head) (k : Kind) → ways_of ways (gives (head_move at k) []) ≡ after_any rules (head_way at ∷ []) k
head_moves HeadStart Module = refl
head_moves HeadStart k = refl
head_moves HeadModule Module = refl
head_moves HeadModule k = refl
head_moves HeadName Module = refl
head_moves HeadName k = refl
head_moves Ports Module = refl
head_moves Ports k = refl
head_moves PortDirection Module = refl
head_moves PortDirection k = refl
head_moves PortWire Module = refl
head_moves PortWire k = refl
head_moves PortRange Module = refl
head_moves PortRange k = refl
head_moves Port Module = refl
head_moves Port k = refl
head_moves PortComma Module = refl
head_moves PortComma k = refl
head_moves HeadEnd Module = refl
head_moves HeadEnd k = refl

item_moves : (at : Item) (k : Kind) → ways_of ways (gives (item_move at k) []) ≡ after_any rules (item_way at ∷ []) k
item_moves ItemStart Module = refl
item_moves ItemStart k = refl
item_moves ItemDirection Module = refl
item_moves ItemDirection k = refl
item_moves Net Module = refl
item_moves Net k = refl
item_moves Next Module = refl
item_moves Next k = refl
item_moves ItemName Module = refl
item_moves ItemName k = refl
item_moves Over Module = refl
item_moves Over k = refl

range_moves : (owner : Owner) (at : Range) (k : Kind) → ways_of ways (gives (range_move owner at k) []) ≡ after_any rules (range_way owner at ∷ []) k
range_moves owner RangeOpen Module = refl
range_moves owner RangeOpen k = refl
range_moves owner (First FromZero) Module = refl
range_moves owner (First FromZero) k = refl
range_moves owner (First FromSmall) Module = refl
range_moves owner (First FromSmall) k = refl
range_moves owner (First FromLimit) Module = refl
range_moves owner (First FromLimit) k = refl
range_moves owner (RangeColon FromZero) Module = refl
range_moves owner (RangeColon FromZero) k = refl
range_moves owner (RangeColon FromSmall) Module = refl
range_moves owner (RangeColon FromSmall) k = refl
range_moves owner (RangeColon FromLimit) Module = refl
range_moves owner (RangeColon FromLimit) k = refl
range_moves OfPort Second Module = refl
range_moves OfPort Second k = refl
range_moves OfItem Second Module = refl
range_moves OfItem Second k = refl

instance_moves : (at : Instance) (k : Kind) → ways_of ways (gives (instance_move at k) []) ≡ after_any rules (instance_way at ∷ []) k
instance_moves Cell Module = refl
instance_moves Cell k = refl
instance_moves InstanceComma Module = refl
instance_moves InstanceComma k = refl
instance_moves InstanceName Module = refl
instance_moves InstanceName k = refl
instance_moves Pins Module = refl
instance_moves Pins k = refl
instance_moves PinComma Module = refl
instance_moves PinComma k = refl
instance_moves PinDot Module = refl
instance_moves PinDot k = refl
instance_moves PinName Module = refl
instance_moves PinName k = refl
instance_moves Connection Module = refl
instance_moves Connection k = refl
instance_moves PinEnd Module = refl
instance_moves PinEnd k = refl
instance_moves InstanceEnd Module = refl
instance_moves InstanceEnd k = refl

end_moves : (role : Role) (k : Kind) (bs : List Brace) → ways_of ways (end_move role k bs) ≡ after_any rules (after_expr role bs ∷ []) k
end_moves Left Module [] = refl
end_moves Left k [] = refl
end_moves Right Module [] = refl
end_moves Right k [] = refl
end_moves OfPin Module [] = refl
end_moves OfPin k [] = refl
end_moves role Module (InList ∷ bs) = refl
end_moves role k (InList ∷ bs) = refl
end_moves role Module (Repeat ∷ bs) = refl
end_moves role k (Repeat ∷ bs) = refl

-- an identifier may be followed by a bit or a part
name_moves : (role : Role) (k : Kind) (bs : List Brace) → ways_of ways (expr_move role ExprName k bs) ≡ after_any rules (expr_ways ExprName (after_expr role bs)) k
name_moves Left Module [] = refl
name_moves Left k [] = refl
name_moves Right Module [] = refl
name_moves Right k [] = refl
name_moves OfPin Module [] = refl
name_moves OfPin k [] = refl
name_moves role Module (InList ∷ bs) = refl
name_moves role k (InList ∷ bs) = refl
name_moves role Module (Repeat ∷ bs) = refl
name_moves role k (Repeat ∷ bs) = refl

expr_moves : (role : Role) (at : Expr) (k : Kind) (bs : List Brace) → ways_of ways (expr_move role at k bs) ≡ after_any rules (expr_ways at (after_expr role bs)) k
expr_moves role ExprStart Module bs = refl
expr_moves role ExprStart k bs = refl
expr_moves role ExprName k bs = name_moves role k bs
expr_moves role Select Module bs = refl
expr_moves role Select k bs = refl
expr_moves role Bit Module bs = refl
expr_moves role Bit k bs = refl
expr_moves role SelectColon Module bs = refl
expr_moves role SelectColon k bs = refl
expr_moves role Last Module bs = refl
expr_moves role Last k bs = refl
expr_moves role ExprEnd k bs = end_moves role k bs
expr_moves role BraceOpen Module bs = refl
expr_moves role BraceOpen k bs = refl
expr_moves role Digits Module bs = refl
expr_moves role Digits k bs = refl
expr_moves role Repeated Module bs = refl
expr_moves role Repeated k bs = refl

moves : (at : At) (k : Kind) (bs : List Brace) → ways_of ways (move at k bs) ≡ after_any rules (ways_at at bs) k
moves (AtExpr role at) k bs = expr_moves role at k bs
moves (AtHead at) k bs = head_moves at k
moves (AtItem at) k bs = item_moves at k
moves (AtRange owner at) k bs = range_moves owner at k
moves (AtInstance at) k bs = instance_moves at k

expr_stops : (role : Role) (at : Expr) (bs : List Brace) → is_done_at (AtExpr role at) ≡ can_stop (expr_ways at (after_expr role bs))
expr_stops Left ExprStart [] = refl
expr_stops Left at [] = refl
expr_stops Right ExprStart [] = refl
expr_stops Right at [] = refl
expr_stops OfPin ExprStart [] = refl
expr_stops OfPin at [] = refl
expr_stops role ExprStart (InList ∷ bs) = refl
expr_stops role at (InList ∷ bs) = refl
expr_stops role ExprStart (Repeat ∷ bs) = refl
expr_stops role at (Repeat ∷ bs) = refl

stops : (at : At) (bs : List Brace) → is_done_at at ≡ can_stop (ways_at at bs)
stops (AtHead HeadStart) bs = refl
stops (AtHead at) bs = refl
stops (AtItem Over) bs = refl
stops (AtItem at) bs = refl
stops (AtRange OfPort RangeOpen) bs = refl
stops (AtRange OfPort at) bs = refl
stops (AtRange OfItem RangeOpen) bs = refl
stops (AtRange OfItem at) bs = refl
stops (AtInstance Cell) bs = refl
stops (AtInstance at) bs = refl
stops (AtExpr role at) bs = expr_stops role at bs

some_way : (at : At) (bs : List Brace) → has_way (ways_at at bs) ≡ true
some_way (AtHead at) bs = refl
some_way (AtItem at) bs = refl
some_way (AtRange owner at) bs = refl
some_way (AtInstance at) bs = refl
some_way (AtExpr role ExprStart) bs = refl
some_way (AtExpr role at) bs = refl

-- the machine reads kinds of tokens as the grammar does
pub machine : IsMachine rules ways next is_done
machine = record {
  proper = record {
    solid = elim [ expression ↦ refl ];
    headed = elim [ expression ↦ refl ];
  };
  moves = λ s k. moves s.at k s.open_braces;
  stops = λ s. stops s.at s.open_braces;
  some_way = λ s. some_way s.at s.open_braces;
}
