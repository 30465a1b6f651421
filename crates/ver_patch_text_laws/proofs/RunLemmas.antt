-- The machine over the rows of a module, and over the connection of a pin.
use Rattle.std.proofs.Common.{◌≡◌, ℕ, Bool, true, false, List, [], ◌∷◌, ◌++◌, Option, Some, None, refl, sym, ap, ◌∙◌, subst, inl, inr}
use Rattle.std.specs.Prelude.{⊤}
use Rattle.grammar_laws.specs.Machines.{is_done as is_done_by, run}
use Rattle.grammar_laws.proofs.LawLemmas.{ends}
use Rattle.ver_text.specs.declared.kind.Kind.{Kind}
use Rattle.ver_text.specs.declared.kind.Kind.TheVariants.{Close, Open}
use Rattle.ver_text.specs.declared.token.Token.{Token}
use Rattle.ver_text.specs.Kinds.{kind_in, kinds_of}
use Rattle.ver_text.specs.Tokens.{tokens_of}
use Rattle.ver_syntax.specs.declared.row.Place.{Place}
use Rattle.ver_syntax.specs.declared.row.Place.TheVariants.{Connection as InConnection, Pins as InPins, Start}
use Rattle.ver_syntax.specs.declared.row.Row.{Row}
use Rattle.ver_syntax.specs.declared.state.At.{At}
use Rattle.ver_syntax.specs.declared.state.At.TheVariants.{Item as AtItem, Instance as AtInstance}
use Rattle.ver_syntax.specs.declared.state.Item.TheVariants.{Over}
use Rattle.ver_syntax.specs.declared.state.Instance.TheVariants.{PinEnd}
use Rattle.ver_syntax.specs.Grammar.{is, module_declaration, rules}
use Rattle.ver_syntax.specs.Moves.{State, is_done, is_done_at, next, ways}
use Rattle.ver_syntax.specs.Rows.{kinds_in, place_after, rows_from, rows_of}
use Rattle.ver_syntax.specs.Syntax.{AreModule, IsModule}
use Rattle.ver_syntax.proofs.MoveLemmas.{machine}
use Rattle.ver_syntax.proofs.RowLemmas.{kinds_kept}
use Rattle.ver_syntax.proofs.PlaceLemmas.{place_at, place_moves, start, stopped}
use Rattle.ver_items.specs.Sections.{is_place, stands_in}
use Rattle.ver_patch.proofs.FrameLemmas.{Follow}
use Rattle.ver_patch_text_laws.proofs.SectionLemmas.{Quits}
use Rattle.ver_patch_text_laws.proofs.StateLemmas.{connection_moves, state}

-- ---- whole modules

abbrev pub is_over : Option State → Bool
is_over o = is_done_by is_done o

pub modules_end : (kinds : List Kind) → AreModule kinds → is_over (run next (Some start) kinds) ≡ true
modules_end kinds h = (ends rules ways next is_done machine module_declaration start refl kinds).1 h

pub ended_modules : (kinds : List Kind) → is_over (run next (Some start) kinds) ≡ true → AreModule kinds
ended_modules kinds h = (ends rules ways next is_done machine module_declaration start refl kinds).0 h

-- ---- rows

-- from a state the machine comes to the end over these rows, which stand where it is
pub record Runs (s : State) (rows : List Row) : Type 0 where
  pub over : is_over (run next (Some s) (kinds_in rows)) ≡ true
  pub follow : Follow (place_at s.at) rows

rows_follow : (text : List ℕ) (ts : List Token) (place : Place) → Follow place (rows_from text place ts)
unfolding rows_from
rows_follow text [] place = tt
rows_follow text (t ∷ ts) place = (refl, rows_follow text ts (place_after place (kind_in text t)))

pub module_runs : (text : List ℕ) → IsModule text → Runs start (rows_of text)
unfolding place_at
module_runs text h = record {
  over = ap (λ ks. is_over (run next (Some start) ks)) (kinds_kept text) ∙ modules_end (kinds_of text) h;
  follow = rows_follow text (tokens_of text) Start;
}

-- one row
pub record Moves (s : State) (r : Row) (rows : List Row) : Type 0 where
  pub state : State
  pub move : next s r.kind ≡ Some state
  pub place : r.place ≡ place_at s.at
  pub runs : Runs state rows

pub runs_next : (s : State) (r : Row) (rows : List Row) → Runs s (r ∷ rows) → Moves s r rows
runs_next s r rows h = by_move (next s r.kind) refl
  where
    by_move : (o : Option State) → next s r.kind ≡ o → Moves s r rows
    by_move None e =
        let none : is_over None ≡ true = ap is_over (sym (ap (λ o. run next o (kinds_in rows)) e ∙ stopped (kinds_in rows))) ∙ h.over in
        absurd (cc)
    by_move (Some t) e = record {
      state = t;
      move = e;
      place = h.follow.0;
      runs = record {
        over = ap (λ o. is_over (run next o (kinds_in rows))) (sym e) ∙ h.over;
        follow = subst (λ p. Follow p rows) (place_moves s t r.kind e) h.follow.1;
      };
    }

-- some rows
pub record Comes (s : State) (front rows : List Row) : Type 0 where
  pub state : State
  pub run : run next (Some s) (kinds_in front) ≡ Some state
  pub runs : Runs state rows

pub runs_on : (front rows : List Row) (s : State) → Runs s (front ++ rows) → Comes s front rows
runs_on [] rows s h = record { state = s; run = refl; runs = h }
runs_on (r ∷ front) rows s h =
    let m = runs_next s r (front ++ rows) h in
    let c = runs_on front rows m.state m.runs in
    record { state = c.state; run = ap (λ o. run next o (kinds_in front)) m.move ∙ c.run; runs = c.runs }

-- ---- connections

abbrev pub EachRow : (Row → Type 0) → List Row → Type 0
EachRow P [] = ⊤
EachRow P (r ∷ rows) = P r × EachRow P rows

-- the tokens of a connection, in its brackets, and the bracket that ends it
pub record IsConnection (s : State) (rows : List Row) : Type 0 where
  pub front : List Row
  pub close : Row
  pub parts : rows ≡ front ++ close ∷ []
  pub closes : is Close close.kind ≡ true
  pub bare : EachRow (λ r. is Open r.kind ≡ false) front
  pub run : run next (Some s) (kinds_in rows) ≡ Some (state (AtInstance PinEnd))

pins_there : (t : State) → t ≡ state (AtInstance PinEnd) → place_at t.at ≡ InPins
unfolding place_at
pins_there t e = ap (λ (s : State). place_at s.at) e

no_end : (at : At) → is_done_at at ≡ true → place_at at ≡ InConnection → ⊥
unfolding place_at
no_end (AtItem Over) e f = absurd (cc)
no_end at e f = absurd (cc)

stays_not : (s : State) (rest : List Row) → Runs s rest → Quits rest → place_at s.at ≡ InConnection → ⊥
stays_not s [] h q e = no_end s.at h.over e
stays_not s (r ∷ rest) h q e =
    let f : stands_in InConnection r ≡ true = ap (is_place InConnection) (h.follow.0 ∙ e) in absurd (cc)

pub connection_runs : (e : Row) (rows rest : List Row) (s : State) → place_at s.at ≡ InConnection → EachRow (λ r. stands_in InConnection r ≡ true) (e ∷ rows)
    → Quits rest → Runs s (e ∷ (rows ++ rest)) → IsConnection s (e ∷ rows)
connection_runs e [] rest s inside each q h =
    let m = runs_next s e rest h in
    elim (connection_moves s m.state e.kind inside m.move) [
      | inl k ↦ absurd (stays_not m.state rest m.runs q k.0)
      | inr k ↦ record { front = []; close = e; parts = refl; closes = k.0; bare = tt; run = m.move ∙ ap Some k.1 }
    ]
connection_runs e (f ∷ rows) rest s inside each q h =
    let m = runs_next s e (f ∷ (rows ++ rest)) h in
    let go = λ (k : place_at m.state.at ≡ InConnection). connection_runs f rows rest m.state k each.1 q m.runs in
    elim (connection_moves s m.state e.kind inside m.move) [
      | inl k ↦ (let c = go k.0 in record {
        front = e ∷ c.front;
        close = c.close;
        parts = ap (λ xs. e ∷ xs) c.parts;
        closes = c.closes;
        bare = (k.1, c.bare);
        run = ap (λ o. run next o (kinds_in (f ∷ rows))) m.move ∙ c.run;
      })
      | inr k ↦ absurd (out m.state f k.1 (m.runs.follow.0) each.1.0)
    ]
  where
    out : (t : State) (r : Row) → t ≡ state (AtInstance PinEnd) → r.place ≡ place_at t.at → stands_in InConnection r ≡ true → ⊥
    out t r e f g = let p : r.place ≡ InPins = f ∙ pins_there t e in let q : is_place InConnection InPins ≡ true = ap (is_place InConnection) (sym p) ∙ g in absurd (cc)
