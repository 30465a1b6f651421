-- What holds for each kind of token and wherever the machine may stand: a test that is computed at all of them.
use Rattle.std.proofs.Common.{◌≡◌, arith, Bool, true, false, ◌&&◌, List, [], ◌∷◌, refl}
use Rattle.std.specs.List.{list_all}
use Rattle.ver_text.specs.declared.kind.Kind.{Kind}
use Rattle.ver_text.specs.declared.kind.Kind.TheVariants.{Module, EndModule, Direction, Wire, NetType, Assign, Parameter, Identifier, Zero, Small, Limit, Large, Based, Open, Close, OpenSquare, CloseSquare, OpenBrace, CloseBrace, Comma, Semicolon, Dot, Colon, Equals, Hash, Stray}
use Rattle.ver_syntax.specs.declared.state.Head.{Head}
use Rattle.ver_syntax.specs.declared.state.Head.TheVariants.{Start as HeadStart, Module as HeadModule, Name as HeadName, Ports, Direction as PortDirection, Wire as PortWire, Range as PortRange, Port, Comma as PortComma, End as HeadEnd}
use Rattle.ver_syntax.specs.declared.state.Item.{Item}
use Rattle.ver_syntax.specs.declared.state.Item.TheVariants.{Start as ItemStart, Direction as ItemDirection, Net, Next, Name as ItemName, Over}
use Rattle.ver_syntax.specs.declared.state.Owner.{Owner}
use Rattle.ver_syntax.specs.declared.state.Owner.TheVariants.{Port as OfPort, Item as OfItem}
use Rattle.ver_syntax.specs.declared.state.Bound.TheVariants.{Zero as FromZero, Small as FromSmall, Limit as FromLimit}
use Rattle.ver_syntax.specs.declared.state.Range.{Range}
use Rattle.ver_syntax.specs.declared.state.Range.TheVariants.{Open as RangeOpen, First, Colon as RangeColon, Second}
use Rattle.ver_syntax.specs.declared.state.Instance.{Instance}
use Rattle.ver_syntax.specs.declared.state.Instance.TheVariants.{Cell, Comma as InstanceComma, Name as InstanceName, Pins, PinComma, Dot as PinDot, Pin as PinName, Connection, PinEnd, End as InstanceEnd}
use Rattle.ver_syntax.specs.declared.state.Expr.{Expr}
use Rattle.ver_syntax.specs.declared.state.Expr.TheVariants.{Start as ExprStart, Name as ExprName, Select, Bit, Colon as SelectColon, Last, End as ExprEnd, Brace as BraceOpen, Digits, Repeated}
use Rattle.ver_syntax.specs.declared.state.Role.{Role}
use Rattle.ver_syntax.specs.declared.state.Role.TheVariants.{Left, Right, Pin as OfPin}
use Rattle.ver_syntax.specs.declared.state.Brace.{Brace}
use Rattle.ver_syntax.specs.declared.state.Brace.TheVariants.{List as InList, Repeat}
use Rattle.ver_syntax.specs.declared.state.At.{At}
use Rattle.ver_syntax.specs.declared.state.At.TheVariants.{Head as AtHead, Range as AtRange, Item as AtItem, Instance as AtInstance, Expr as AtExpr}

-- all kinds of tokens, and all places
abbrev pub kinds : List Kind
kinds =
    Module ∷ EndModule ∷ Direction ∷ Wire ∷ NetType ∷ Assign ∷ Parameter ∷ Identifier ∷ Zero ∷ Small ∷ Limit ∷ Large ∷ Based ∷ Open ∷ Close
    ∷ OpenSquare ∷ CloseSquare ∷ OpenBrace ∷ CloseBrace ∷ Comma ∷ Semicolon ∷ Dot ∷ Colon ∷ Equals ∷ Hash ∷ Stray ∷ []

abbrev pub heads : List Head
heads = HeadStart ∷ HeadModule ∷ HeadName ∷ Ports ∷ PortDirection ∷ PortWire ∷ PortRange ∷ Port ∷ PortComma ∷ HeadEnd ∷ []

abbrev pub items : List Item
items = ItemStart ∷ ItemDirection ∷ Net ∷ Next ∷ ItemName ∷ Over ∷ []

abbrev pub owners : List Owner
owners = OfPort ∷ OfItem ∷ []

abbrev pub ranges : List Range
ranges =
    RangeOpen ∷ First FromZero ∷ First FromSmall ∷ First FromLimit ∷ RangeColon FromZero ∷ RangeColon FromSmall ∷ RangeColon FromLimit
    ∷ Second ∷ []

abbrev pub instances : List Instance
instances = Cell ∷ InstanceComma ∷ InstanceName ∷ Pins ∷ PinComma ∷ PinDot ∷ PinName ∷ Connection ∷ PinEnd ∷ InstanceEnd ∷ []

abbrev pub roles : List Role
roles = Left ∷ Right ∷ OfPin ∷ []

abbrev pub exprs : List Expr
exprs = ExprStart ∷ ExprName ∷ Select ∷ Bit ∷ SelectColon ∷ Last ∷ ExprEnd ∷ BraceOpen ∷ Digits ∷ Repeated ∷ []

pub each_kind : (p : Kind → Bool) → list_all p kinds ≡ true → (k : Kind) → p k ≡ true
each_kind p all Module = grind (arith, all)
each_kind p all k = grind (arith, all)

each_head : (p : Head → Bool) → list_all p heads ≡ true → (at : Head) → p at ≡ true
each_head p all HeadStart = grind (arith, all)
each_head p all at = grind (arith, all)

each_item : (p : Item → Bool) → list_all p items ≡ true → (at : Item) → p at ≡ true
each_item p all ItemStart = grind (arith, all)
each_item p all at = grind (arith, all)

each_owner : (p : Owner → Bool) → list_all p owners ≡ true → (owner : Owner) → p owner ≡ true
each_owner p all OfPort = grind (arith, all)
each_owner p all OfItem = grind (arith, all)

each_range : (p : Range → Bool) → list_all p ranges ≡ true → (at : Range) → p at ≡ true
each_range p all (First FromZero) = grind (arith, all)
each_range p all (First bound) = grind (arith, all)
each_range p all (RangeColon FromZero) = grind (arith, all)
each_range p all (RangeColon bound) = grind (arith, all)
each_range p all at = grind (arith, all)

each_instance : (p : Instance → Bool) → list_all p instances ≡ true → (at : Instance) → p at ≡ true
each_instance p all Cell = grind (arith, all)
each_instance p all at = grind (arith, all)

each_role : (p : Role → Bool) → list_all p roles ≡ true → (role : Role) → p role ≡ true
each_role p all Left = grind (arith, all)
each_role p all role = grind (arith, all)

each_expr : (p : Expr → Bool) → list_all p exprs ≡ true → (at : Expr) → p at ≡ true
each_expr p all ExprStart = grind (arith, all)
each_expr p all at = grind (arith, all)

pub both_true : (a b : Bool) → (a && b) ≡ true → (a ≡ true) × (b ≡ true)
both_true true b e = (refl, e)
both_true false b e = absurd (cc)

module _ (p : At → Bool) where
  abbrev in_heads : Bool
  in_heads = list_all (λ at. p (AtHead at)) heads

  abbrev in_items : Bool
  in_items = list_all (λ at. p (AtItem at)) items

  abbrev in_ranges : Bool
  in_ranges = list_all (λ owner. list_all (λ at. p (AtRange owner at)) ranges) owners

  abbrev in_instances : Bool
  in_instances = list_all (λ at. p (AtInstance at)) instances

  abbrev in_exprs : Bool
  in_exprs = list_all (λ role. list_all (λ at. p (AtExpr role at)) exprs) roles

  -- whether a test passes at each place
  abbrev everywhere : Bool
  everywhere = in_heads && (in_items && (in_ranges && (in_instances && in_exprs)))

  each_part : (a b c d e : Bool) → (a && (b && (c && (d && e)))) ≡ true → (a ≡ true) × (b ≡ true) × (c ≡ true) × (d ≡ true) × (e ≡ true)
  each_part a b c d e all = (grind (arith, all), grind (arith, all), grind (arith, all), grind (arith, all), grind (arith, all))

  each_place : everywhere ≡ true → (at : At) → p at ≡ true
  each_place all (AtHead at) = each_head (λ a. p (AtHead a)) (each_part in_heads in_items in_ranges in_instances in_exprs all).0 at
  each_place all (AtItem at) = each_item (λ a. p (AtItem a)) (each_part in_heads in_items in_ranges in_instances in_exprs all).1 at
  each_place all (AtRange owner at) =
      let owned = each_owner (λ o. list_all (λ a. p (AtRange o a)) ranges) (each_part in_heads in_items in_ranges in_instances in_exprs all).2 owner in
      each_range (λ a. p (AtRange owner a)) owned at
  each_place all (AtInstance at) = each_instance (λ a. p (AtInstance a)) (each_part in_heads in_items in_ranges in_instances in_exprs all).3 at
  each_place all (AtExpr role at) =
      let played = each_role (λ r. list_all (λ a. p (AtExpr r a)) exprs) (each_part in_heads in_items in_ranges in_instances in_exprs all).4 role in
      each_expr (λ a. p (AtExpr role a)) played at

-- the same with no brace open, and with either kind of brace as the innermost one
abbrev with_braces : (List Brace → Bool) → List Brace → Bool
with_braces p bs = p [] && (p (InList ∷ bs) && p (Repeat ∷ bs))

pub each_state : (p : At → List Brace → Bool) → ((bs : List Brace) → everywhere (λ at. with_braces (p at) bs) ≡ true) → (at : At) (bs : List Brace) → p at bs ≡ true
each_state p all at [] = grind (arith, each_place (λ a. with_braces (p a) []) (all []) at)
each_state p all at (InList ∷ bs) = grind (arith, each_place (λ a. with_braces (p a) bs) (all bs) at)
each_state p all at (Repeat ∷ bs) = grind (arith, each_place (λ a. with_braces (p a) bs) (all bs) at)

-- the same for each kind of token
pub each_move : (p : At → Kind → List Brace → Bool)
    → ((bs : List Brace) → everywhere (λ at. with_braces (λ braces. list_all (λ k. p at k braces) kinds) bs) ≡ true)
    → (at : At) (k : Kind) (bs : List Brace) → p at k bs ≡ true
each_move p all at k bs = each_kind (λ j. p at j bs) (each_state (λ a braces. list_all (λ j. p a j braces) kinds) all at bs) k
