-- Where the machine stands, and what the next token stands in.
use Rattle.std.proofs.Common.{◌≡◌, ◌↔◌, ℕ, ◌<◌, Bool, true, false, ◌&&◌, ◌||◌, ◌==◌, not, List, [], ◌∷◌, ◌++◌, length, map, Option, Some, None, is_some, refl, sym, ap, ◌∙◌, arith}
use Rattle.grammar_laws.specs.Grammar.{Begins}
use Rattle.grammar_laws.specs.Machines.{run}
use Rattle.grammar_laws.proofs.LawLemmas.{goes_on}
use Rattle.ver_text.specs.declared.kind.Kind.{Kind}
use Rattle.ver_text.specs.declared.kind.Kind.TheVariants.{Assign}
use Rattle.ver_text.specs.declared.token.Token.{Token}
use Rattle.ver_text.specs.Kinds.{kind_in}
use Rattle.ver_text.specs.Tokens.{tokens_of}
use Rattle.ver_syntax.specs.declared.row.Place.{Place}
use Rattle.ver_syntax.specs.declared.row.Place.TheVariants.{Start as InStart, Head as InHead, Ports as InPorts, Declaration, Assignment, Instances, Pins as InPins, Connection as InConnection}
use Rattle.ver_syntax.specs.declared.row.Row.{Row}
use Rattle.ver_syntax.specs.Grammar.{rules, module_declaration}
use Rattle.ver_syntax.specs.Laws.{place_after_all, RowsStandByKinds, ItemsStandAtStart}
use Rattle.ver_syntax.specs.Moves.{State, ways, move, next, is_done}
use Rattle.ver_syntax.specs.Rows.{place_after, row, rows_from}
use Rattle.ver_syntax.proofs.MoveLemmas.{machine}
use Rattle.ver_syntax.proofs.FaultLemmas.{agrees, agree}
use Rattle.ver_syntax.proofs.TableLemmas.{both_true, each_move, each_state}
use Rattle.ver_syntax.proofs.RowLemmas.{no_row, next_row}
use Rattle.ver_syntax.specs.declared.state.Head.TheVariants.{Start as HeadStart, Module as HeadModule, Name as HeadName, End as HeadEnd}
use Rattle.ver_syntax.specs.declared.state.Item.TheVariants.{Start as ItemStart, Over}
use Rattle.ver_syntax.specs.declared.state.Owner.TheVariants.{Port as OfPort, Item as OfItem}
use Rattle.ver_syntax.specs.declared.state.Instance.TheVariants.{Cell, Comma as InstanceComma, Name as InstanceName, Connection, End as InstanceEnd}
use Rattle.ver_syntax.specs.declared.state.Role.TheVariants.{Pin as OfPin}
use Rattle.ver_syntax.specs.declared.state.Brace.{Brace}
use Rattle.ver_syntax.specs.declared.state.At.{At}
use Rattle.ver_syntax.specs.declared.state.At.TheVariants.{Head as AtHead, Range as AtRange, Item as AtItem, Instance as AtInstance, Expr as AtExpr}

-- what the token stands in that comes where the machine stands
unfoldable pub place_at : At → Place
place_at (AtHead HeadStart) = InStart
place_at (AtHead HeadModule) = InHead
place_at (AtHead HeadName) = InHead
place_at (AtHead HeadEnd) = InHead
place_at (AtHead at) = InPorts
place_at (AtRange OfPort at) = InPorts
place_at (AtRange OfItem at) = Declaration
place_at (AtItem ItemStart) = InStart
place_at (AtItem Over) = Instances
place_at (AtItem at) = Declaration
place_at (AtInstance Cell) = Instances
place_at (AtInstance InstanceComma) = Instances
place_at (AtInstance InstanceName) = Instances
place_at (AtInstance InstanceEnd) = Instances
place_at (AtInstance Connection) = InConnection
place_at (AtInstance at) = InPins
place_at (AtExpr OfPin at) = InConnection
place_at (AtExpr role at) = Assignment

is_first : At → Bool
is_first (AtHead HeadStart) = true
is_first _ = false

-- the places are told apart by numbers
unfoldable pub number : Place → ℕ
number InStart = 0
number InHead = 1
number InPorts = 2
number Declaration = 3
number Assignment = 4
number Instances = 5
number InPins = 6
number InConnection = 7

pub same : (p q : Place) → (number p == number q) ≡ true → p ≡ q
unfolding number
same InStart InStart e = refl
same InHead InHead e = refl
same InPorts InPorts e = refl
same Declaration Declaration e = refl
same Assignment Assignment e = refl
same Instances Instances e = refl
same InPins InPins e = refl
same InConnection InConnection e = refl
same p q e = absurd (cc)

-- a state, if any, has the place after this one, and is not the first
follows : Option State → Place → Bool
follows None p = true
follows (Some s) p = (number p == number (place_at s.at)) && not (is_first s.at)

move_follows : (at : At) (k : Kind) (bs : List Brace) → follows (move at k bs) (place_after (place_at at) k) ≡ true
unfolding follows number place_at is_first
move_follows = each_move (λ at k bs. follows (move at k bs) (place_after (place_at at) k)) (λ bs. refl)

module _ (s s' : State) (k : Kind) (e : next s k ≡ Some s') where
  after : ((number (place_after (place_at s.at) k) == number (place_at s'.at)) ≡ true) × (not (is_first s'.at) ≡ true)
  unfolding follows
  after = both_true (number (place_after (place_at s.at) k) == number (place_at s'.at)) (not (is_first s'.at)) (rw e at (move_follows s.at k s.open_braces))

  pub place_moves : place_after (place_at s.at) k ≡ place_at s'.at
  place_moves = same (place_after (place_at s.at) k) (place_at s'.at) after.0

pub stopped : (ks : List Kind) → run next None ks ≡ None
stopped [] = refl
stopped (k ∷ ks) = stopped ks

one_state : (s t : State) → Some s ≡ Some t → s ≡ t
one_state s t e = (cc)

-- where the machine stands tells what the next token stands in
pub ran_places : (ks : List Kind) (s s' : State) → run next (Some s) ks ≡ Some s' → place_after_all (place_at s.at) ks ≡ place_at s'.at
ran_places [] s s' e = ap (λ (x : State). place_at x.at) (one_state s s' e)
ran_places (k ∷ ks) s s' e = by_move (next s k) refl e (λ (t : State) (g : run next (Some t) ks ≡ Some s'). ran_places ks t s' g)
  where
    by_move : (o : Option State) → next s k ≡ o → run next o ks ≡ Some s'
        → ((t : State) → run next (Some t) ks ≡ Some s' → place_after_all (place_at t.at) ks ≡ place_at s'.at)
        → place_after_all (place_after (place_at s.at) k) ks ≡ place_at s'.at
    by_move None f g ih = let h = stopped ks in absurd (cc)
    by_move (Some t) f g ih = rw (place_moves s t k f) (ih t g)

no_first : (b : Bool) → not b ≡ true → b ≡ false
no_first true h = absurd (cc)
no_first false h = refl

ran_first : (ks : List Kind) (s s' : State) → is_first s.at ≡ false → run next (Some s) ks ≡ Some s' → is_first s'.at ≡ false
ran_first [] s s' n e = rw (one_state s s' e) at n
ran_first (k ∷ ks) s s' n e =
    by_move (next s k) refl e (λ (t : State) (m : is_first t.at ≡ false) (g : run next (Some t) ks ≡ Some s'). ran_first ks t s' m g)
  where
    by_move : (o : Option State) → next s k ≡ o → run next o ks ≡ Some s'
        → ((t : State) → is_first t.at ≡ false → run next (Some t) ks ≡ Some s' → is_first s'.at ≡ false)
        → is_first s'.at ≡ false
    by_move None f g ih = let h = stopped ks in absurd (cc)
    by_move (Some t) f g ih = ih t (no_first (is_first t.at) (after s t k f).1) g

abbrev pub start : State
start = record { at = AtHead HeadStart; open_braces = [] }

past_first : (ks : List Kind) (s' : State) → 0 < length ks → run next (Some start) ks ≡ Some s' → is_first s'.at ≡ false
past_first [] s' some e = absurd (omega arith)
past_first (k ∷ ks) s' some e = by_move (next start k) refl e
  where
    by_move : (o : Option State) → next start k ≡ o → run next o ks ≡ Some s' → is_first s'.at ≡ false
    by_move None f g = let h = stopped ks in absurd (cc)
    by_move (Some t) f g = ran_first ks t s' (no_first (is_first t.at) (after start t k f).1) g

run_more : (o : Option State) (ks : List Kind) (k : Kind) → run next o (ks ++ k ∷ []) ≡ run next (run next o ks) (k ∷ [])
run_more None [] k = refl
run_more (Some s) [] k = refl
run_more None (j ∷ ks) k = run_more None ks k
run_more (Some s) (j ∷ ks) k = run_more (next s j) ks k

-- an item may begin where the machine stands, but at the first token of all
begins_item : At → List Brace → Bool
begins_item at bs = is_first at || agrees (number (place_at at) == 0) (is_some (move at Assign bs))

starts : (at : At) (bs : List Brace) → begins_item at bs ≡ true
unfolding begins_item agrees number place_at is_first
starts = each_state begins_item (λ bs. refl)

goes : (ks : List Kind) → (is_some (run next (Some start) ks) ≡ true) ↔ Begins rules module_declaration ks
goes ks = goes_on rules ways next is_done machine module_declaration start refl ks

at_start : (p : Place) → p ≡ InStart → (number p == 0) ≡ true
unfolding number
at_start p f = rw f refl

zero_start : (p : Place) → (number p == 0) ≡ true → (number p == number InStart) ≡ true
unfolding number
zero_start p f = f

module _ (before : List Kind) (s : State) (e : run next (Some start) before ≡ Some s) (some : 0 < length before) where
  stands : place_after_all InStart before ≡ place_at s.at
  unfolding place_at
  stands = ran_places before start s e

  may : (number (place_at s.at) == 0) ≡ is_some (next s Assign)
  unfolding begins_item
  may =
      agree (number (place_at s.at) == 0) (is_some (next s Assign))
      (rw (past_first before s some e) at (starts s.at s.open_braces))

  last : run next (Some start) (before ++ Assign ∷ []) ≡ next s Assign
  last = run_more (Some start) before Assign ∙ rw e (alone s Assign)
    where
      alone : (s : State) (k : Kind) → run next (Some s) (k ∷ []) ≡ next s k
      alone s k = refl

  items : (place_after_all InStart before ≡ InStart) ↔ Begins rules module_declaration (before ++ Assign ∷ [])
  items = (
    (λ p.
        let n : (number (place_at s.at) == 0) ≡ true = at_start (place_at s.at) (sym stands ∙ p) in
        (goes (before ++ Assign ∷ [])).0 (ap is_some last ∙ sym may ∙ n)),
    (λ b. stands ∙ same (place_at s.at) InStart (zero_start (place_at s.at) (may ∙ sym (ap is_some last) ∙ (goes (before ++ Assign ∷ [])).1 b))),
  )

pub items_stand : ItemsStandAtStart
items_stand before some b = by_run (run next (Some start) before) refl ((goes before).1 b)
  where
    by_run : (o : Option State) → run next (Some start) before ≡ o → is_some (run next (Some start) before) ≡ true
        → (place_after_all InStart before ≡ InStart) ↔ Begins rules module_declaration (before ++ Assign ∷ [])
    by_run None e h = let f : is_some (run next (Some start) before) ≡ false = rw e refl in absurd (cc)
    by_run (Some s) e h = items before s e some

-- ---- rows

stand_from : (text : List ℕ) (ts : List Token) (place : Place) (front back : List Row) (r : Row) → rows_from text place ts ≡ front ++ r ∷ back
    → r.place ≡ place_after_all place (map (λ q. q.kind) front)
stand_from text [] place [] back r e = let n = no_row text place [] refl in absurd (cc)
stand_from text [] place (q ∷ qs) back r e = let n = no_row text place [] refl in absurd (cc)
stand_from text (t ∷ ts) place [] back r e =
    let n = next_row text place (t ∷ ts) ts t refl in
    let same_row : row text place t ≡ r = head_is (row text place t) r (rows_from text (place_after place (kind_in text t)) ts) back (sym n ∙ e) in
    ap (λ (q : Row). q.place) (sym same_row)
  where
    head_is : (x y : Row) (xs ys : List Row) → x ∷ xs ≡ y ∷ ys → x ≡ y
    head_is x y xs ys f = (cc)
stand_from text (t ∷ ts) place (q ∷ qs) back r e =
    let n = next_row text place (t ∷ ts) ts t refl in
    let both_are = parts_are (row text place t) q (rows_from text (place_after place (kind_in text t)) ts) (qs ++ r ∷ back) (sym n ∙ e) in
    let kind : kind_in text t ≡ q.kind = ap (λ (x : Row). x.kind) both_are.0 in
    rw (← kind) (stand_from text ts (place_after place (kind_in text t)) qs back r both_are.1)
  where
    parts_are : (x y : Row) (xs ys : List Row) → x ∷ xs ≡ y ∷ ys → (x ≡ y) × (xs ≡ ys)
    parts_are x y xs ys f = ((cc), (cc))

pub rows_stand : RowsStandByKinds
rows_stand text front back r e = stand_from text (tokens_of text) InStart front back r e
