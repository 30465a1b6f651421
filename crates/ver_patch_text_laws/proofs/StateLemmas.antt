-- Where the machine of the grammar stands in pins and between items.
use Rattle.std.proofs.Common.{◌≡◌, Bool, true, false, ◌&&◌, ◌||◌, ◌==◌, not, List, [], ◌∷◌, ◌++◌, Option, Some, None, refl, ap, ◌∙◌, subst, ◌⊎◌, inl, inr}
use Rattle.grammar_laws.specs.Machines.{run}
use Rattle.ver_text.specs.declared.kind.Kind.{Kind}
use Rattle.ver_text.specs.declared.kind.Kind.TheVariants.{EndModule, Identifier, Open, Close, Semicolon}
use Rattle.ver_syntax.specs.declared.row.Place.TheVariants.{Start as InStart, Pins as InPins, Connection as InConnection}
use Rattle.ver_syntax.specs.Grammar.{is}
use Rattle.ver_syntax.specs.Moves.{State, move, next}
use Rattle.ver_syntax.proofs.PlaceLemmas.{number, place_at, same, start}
use Rattle.ver_syntax.proofs.TableLemmas.{both_true, each_kind, each_move, each_state}
use Rattle.ver_syntax.specs.declared.state.Item.TheVariants.{Start as ItemStart, Over}
use Rattle.ver_syntax.specs.declared.state.Instance.TheVariants.{Connection, Pin as PinName, PinEnd}
use Rattle.ver_syntax.specs.declared.state.Brace.{Brace}
use Rattle.ver_syntax.specs.declared.state.At.{At}
use Rattle.ver_syntax.specs.declared.state.At.TheVariants.{Item as AtItem, Instance as AtInstance}

no_braces : List Brace → Bool
no_braces [] = true
no_braces (b ∷ bs) = false

-- a state, if any, is at a place that passes, with no brace open
abbrev leads : (At → Bool) → Option State → Bool
leads test None = true
leads test (Some s) = test s.at && no_braces s.open_braces

abbrev pub state : At → State
state at = record { at = at; open_braces = [] }

no_braces_are : (bs : List Brace) → no_braces bs ≡ true → bs ≡ []
unfolding no_braces
no_braces_are [] e = refl
no_braces_are (b ∷ bs) e = absurd (cc)

is_pin_name : At → Bool
is_pin_name (AtInstance PinName) = true
is_pin_name _ = false

is_connection : At → Bool
is_connection (AtInstance Connection) = true
is_connection _ = false

is_pin_end : At → Bool
is_pin_end (AtInstance PinEnd) = true
is_pin_end _ = false

is_item_start : At → Bool
is_item_start (AtItem ItemStart) = true
is_item_start _ = false

pin_name_is : (at : At) → is_pin_name at ≡ true → at ≡ AtInstance PinName
unfolding is_pin_name
pin_name_is (AtInstance PinName) e = refl
pin_name_is at e = absurd (cc)

connection_is : (at : At) → is_connection at ≡ true → at ≡ AtInstance Connection
unfolding is_connection
connection_is (AtInstance Connection) e = refl
connection_is at e = absurd (cc)

pin_end_is : (at : At) → is_pin_end at ≡ true → at ≡ AtInstance PinEnd
unfolding is_pin_end
pin_end_is (AtInstance PinEnd) e = refl
pin_end_is at e = absurd (cc)

item_start_is : (at : At) → is_item_start at ≡ true → at ≡ AtItem ItemStart
unfolding is_item_start
item_start_is (AtItem ItemStart) e = refl
item_start_is at e = absurd (cc)

led : (test : At → Bool) (goal : At) → ((at : At) → test at ≡ true → at ≡ goal) → (s : State) → (test s.at && no_braces s.open_braces) ≡ true → s ≡ state goal
led test goal is s e =
    let (f, g) = both_true (test s.at) (no_braces s.open_braces) e in
    let h = is s.at f in
    let j = no_braces_are s.open_braces g in
    λ i. record { at = h i; open_braces = j i }

or_false : (a b : Bool) → (not a || b) ≡ true → a ≡ true → b ≡ true
or_false true b e f = e
or_false false b e f = absurd (cc)

-- ---- moves

semicolon_leads : (at : At) (bs : List Brace) → leads is_item_start (move at Semicolon bs) ≡ true
unfolding is_item_start no_braces
semicolon_leads = each_state (λ at bs. leads is_item_start (move at Semicolon bs)) (λ bs. refl)

-- after a `;` an item may begin
pub semicolon_moves : (s t : State) → next s Semicolon ≡ Some t → t ≡ state (AtItem ItemStart)
semicolon_moves s t e = led is_item_start (AtItem ItemStart) item_start_is t (rw e at (semicolon_leads s.at s.open_braces))

identifier_leads : (at : At) (bs : List Brace) → (not (number (place_at at) == 6) || leads is_pin_name (move at Identifier bs)) ≡ true
unfolding is_pin_name no_braces number place_at
identifier_leads = each_state (λ at bs. not (number (place_at at) == 6) || leads is_pin_name (move at Identifier bs)) (λ bs. refl)

-- an identifier in the pins is that of a pin
pub identifier_moves : (s t : State) → place_at s.at ≡ InPins → next s Identifier ≡ Some t → t ≡ state (AtInstance PinName)
unfolding number
identifier_moves s t in_pins e =
    let h = or_false (number (place_at s.at) == 6) (leads is_pin_name (next s Identifier)) (identifier_leads s.at s.open_braces) (ap (λ p. number p == 6) in_pins) in
    led is_pin_name (AtInstance PinName) pin_name_is t (rw e at h)

is_some_state : Option State → Bool
is_some_state None = false
is_some_state (Some s) = true

name_leads : (k : Kind) → (not (is_some_state (move (AtInstance PinName) k [])) || (is Open k && leads is_connection (move (AtInstance PinName) k []))) ≡ true
unfolding is_connection no_braces is_some_state
name_leads = each_kind (λ k. not (is_some_state (move (AtInstance PinName) k [])) || (is Open k && leads is_connection (move (AtInstance PinName) k []))) refl

-- after the name of a pin comes a `(`
pub name_moves : (k : Kind) (t : State) → next (state (AtInstance PinName)) k ≡ Some t → (is Open k ≡ true) × (t ≡ state (AtInstance Connection))
unfolding is_some_state
name_moves k t e =
    let h =
    or_false (is_some_state (next (state (AtInstance PinName)) k))
    (is Open k && leads is_connection (next (state (AtInstance PinName)) k)) (name_leads k) (rw e refl) in
    let (f, g) = both_true (is Open k) (leads is_connection (next (state (AtInstance PinName)) k)) h in
    (f, led is_connection (AtInstance Connection) connection_is t (rw e at g))

-- a state, if any, is in a connection still, after no bracket, or behind it, after its bracket
stays : Kind → Option State → Bool
stays k None = true
stays k (Some s) = ((number (place_at s.at) == 7) && not (is Open k)) || (is Close k && (is_pin_end s.at && no_braces s.open_braces))

connection_leads : (at : At) (k : Kind) (bs : List Brace) → (not (number (place_at at) == 7) || stays k (move at k bs)) ≡ true
unfolding is_pin_end no_braces number place_at stays
connection_leads = each_move (λ at k bs. not (number (place_at at) == 7) || stays k (move at k bs)) (λ bs. refl)

either_true : (a b : Bool) → (a || b) ≡ true → (a ≡ true) ⊎ (b ≡ true)
either_true true b e = inl refl
either_true false b e = inr e

-- a token in a connection leads on in it, or out of it
pub connection_moves : (s t : State) (k : Kind) → place_at s.at ≡ InConnection → next s k ≡ Some t
    → ((place_at t.at ≡ InConnection) × (is Open k ≡ false)) ⊎ ((is Close k ≡ true) × (t ≡ state (AtInstance PinEnd)))
unfolding number stays
connection_moves s t k inside e =
    let h = or_false (number (place_at s.at) == 7) (stays k (next s k)) (connection_leads s.at k s.open_braces) (ap (λ p. number p == 7) inside) in
    let m = rw e at h in
    elim (either_true ((number (place_at t.at) == 7) && not (is Open k)) (is Close k && (is_pin_end t.at && no_braces t.open_braces)) m) [
      | inl n ↦ (let (f, g) = both_true (number (place_at t.at) == 7) (not (is Open k)) n in inl (same (place_at t.at) InConnection f, not_true (is Open k) g))
      | inr n ↦ (let (f, g) = both_true (is Close k) (is_pin_end t.at && no_braces t.open_braces) n in inr (f, led is_pin_end (AtInstance PinEnd) pin_end_is t g))
    ]
  where
    not_true : (b : Bool) → not b ≡ true → b ≡ false
    not_true true f = absurd (cc)
    not_true false f = refl

-- ---- runs

pub run_append : (o : Option State) (xs ys : List Kind) → run next o (xs ++ ys) ≡ run next (run next o xs) ys
run_append None [] ys = refl
run_append (Some s) [] ys = refl
run_append None (x ∷ xs) ys = run_append None xs ys
run_append (Some s) (x ∷ xs) ys = run_append (next s x) xs ys

-- ---- the end of a module

is_over_at : At → Bool
is_over_at (AtItem Over) = true
is_over_at _ = false

over_is : (at : At) → is_over_at at ≡ true → at ≡ AtItem Over
unfolding is_over_at
over_is (AtItem Over) e = refl
over_is at e = absurd (cc)

end_leads : (at : At) (bs : List Brace) → (leads is_over_at (move at EndModule bs) && (not (is_some_state (move at EndModule bs)) || is_item_start at)) ≡ true
unfolding is_over_at is_item_start is_some_state no_braces
end_leads = each_state (λ at bs. leads is_over_at (move at EndModule bs) && (not (is_some_state (move at EndModule bs)) || is_item_start at)) (λ bs. refl)

-- `endmodule` comes where an item may begin, and nothing after it
pub end_moves : (s t : State) → next s EndModule ≡ Some t → (s.at ≡ AtItem ItemStart) × (t ≡ state (AtItem Over))
unfolding is_some_state
end_moves s t e =
    let (f, g) = both_true (leads is_over_at (next s EndModule)) (not (is_some_state (next s EndModule)) || is_item_start s.at) (end_leads s.at s.open_braces) in
    (item_start_is s.at (or_false (is_some_state (next s EndModule)) (is_item_start s.at) g (rw e refl)), led is_over_at (AtItem Over) over_is t (rw e at f))

nothing_more : (k : Kind) → not (is_some_state (move (AtItem Over) k [])) ≡ true
unfolding is_some_state
nothing_more = each_kind (λ k. not (is_some_state (move (AtItem Over) k []))) refl

pub over_stops : (k : Kind) (t : State) → next (state (AtItem Over)) k ≡ Some t → ⊥
unfolding is_some_state
over_stops k t e = let g : not (is_some_state (Some t)) ≡ true = subst (λ o. not (is_some_state o) ≡ true) e (nothing_more k) in absurd (cc)

comes_to_start : Option State → Bool
comes_to_start None = false
comes_to_start (Some s) = is_item_start s.at

start_leads : (at : At) (k : Kind) (bs : List Brace) → (not (comes_to_start (move at k bs)) || is Semicolon k) ≡ true
unfolding comes_to_start is_item_start
start_leads = each_move (λ at k bs. not (comes_to_start (move at k bs)) || is Semicolon k) (λ bs. refl)

-- only a `;` leads to where an item may begin
pub start_moves : (s t : State) (k : Kind) → next s k ≡ Some t → t.at ≡ AtItem ItemStart → is Semicolon k ≡ true
unfolding comes_to_start is_item_start
start_moves s t k e f = or_false (comes_to_start (next s k)) (is Semicolon k) (start_leads s.at k s.open_braces) (ap comes_to_start e ∙ ap is_item_start f)

pub start_place : place_at start.at ≡ InStart
unfolding place_at
start_place = refl

pub item_place : place_at (AtItem ItemStart) ≡ InStart
unfolding place_at
item_place = refl

pub connection_place : place_at (AtInstance Connection) ≡ InConnection
unfolding place_at
connection_place = refl
