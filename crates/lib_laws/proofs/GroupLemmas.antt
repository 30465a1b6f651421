-- The cells of a library and their pins have names for arguments.
use Rattle.std.proofs.Common.{◌≡◌, ℕ, suc, ◌<◌, ◌==◌, ◌&&◌, Bool, true, false, List, [], ◌∷◌, codes, refl, sym, ap, ◌∙◌, arith, if◌then◌else◌}
use Rattle.std.specs.Bool.{⊤}
use Rattle.std.specs.List.{All, position_or_len}
use Rattle.std.specs.Str.{bytes_eq}
use Rattle.std.proofs.lemmas.Bool.{and_parts}
use Rattle.std.proofs.lemmas.Bool.Decides.{nat_tests}
use Rattle.std.proofs.lemmas.List.Elements.{All-cons, All-head, All-nil, All-tail, All-take}
use Rattle.std.proofs.lemmas.Slice.Eq.{bytes_eq-Decides}
use Rattle.lib_text.specs.declared.kind.Kind.{Kind}
use Rattle.lib_text.specs.declared.kind.Kind.TheVariants.{Cell, Pin}
use Rattle.lib_text.specs.declared.statement.Statement.{Statement}
use Rattle.lib_text.specs.declared.statement.Form.TheVariants.{Group as OfGroup}
use Rattle.lib_text.specs.Arguments.{are_names}
use Rattle.lib_text.specs.Grammar.{is_cell}
use Rattle.lib_text.specs.Groups.{Group, group_of, groups_from, inside, is_form, is_in, library_of, list_of, word_at}
use Rattle.lib_text.specs.Kinds.{word_kind}
use Rattle.lib_text.specs.Syntax.{IsLibrary}
use Rattle.lib_cells.specs.Cells.{cell_groups, pin_groups}
use Rattle.lib_laws.proofs.BodySteps.{wants_names, in_cell_after, name_kind, Inside}
use Rattle.lib_laws.proofs.BodySteps.Inside.{ends, adds, opens, closes}
use Rattle.lib_laws.proofs.ReadLemmas.{read}

-- a group's arguments are names
abbrev pub HasArguments : Group → Type 0
HasArguments group = are_names (list_of group.text group.head) ≡ true

-- ---- the pins of a cell

-- a statement that is a pin of the group whose name begins here has names
abbrev PinHasNames : List ℕ → ℕ → Statement → Type 0
PinHasNames text place s =
    s.group ≡ place → is_form OfGroup s.form ≡ true → name_kind text s.name ≡ Pin → are_names (list_of text s) ≡ true

-- of the groups that are open, only the second may be the one whose name begins here, and then it is a cell
abbrev IsCellAt : ℕ → List ℕ → Bool → Type 0
IsCellAt place [] cell = ⊤
IsCellAt place (g ∷ []) cell = g ≡ place → ⊥
IsCellAt place (g ∷ h ∷ []) cell = (g ≡ place → cell ≡ true) × (h ≡ place → ⊥)
IsCellAt place (g ∷ h ∷ i ∷ gs) cell = (g ≡ place → ⊥) × IsCellAt place (h ∷ i ∷ gs) cell

cell_after_open : (place name g : ℕ) (gs : List ℕ) (cell : Bool) (k : Kind) → (name ≡ place → ⊥)
    → IsCellAt place (g ∷ gs) cell → IsCellAt place (name ∷ g ∷ gs) (in_cell_after gs cell k)
cell_after_open place name g [] cell k n m = ((λ e. absurd (n e)), m)
cell_after_open place name g (h ∷ []) cell k n m = (n, m)
cell_after_open place name g (h ∷ i ∷ gs) cell k n m = (n, m)

cell_after_close : (place g : ℕ) (gs : List ℕ) (cell : Bool) → IsCellAt place (g ∷ gs) cell → IsCellAt place gs cell
cell_after_close place g [] cell m = tt
cell_after_close place g (h ∷ []) cell m = m.1
cell_after_close place g (h ∷ i ∷ gs) cell m = m.1

pin_wants : (place g : ℕ) (gs : List ℕ) (cell : Bool) → IsCellAt place (g ∷ gs) cell → g ≡ place → wants_names gs cell Pin ≡ true
pin_wants place g [] cell m e = absurd (m e)
pin_wants place g (h ∷ []) cell m e = rw (m.0 e) refl
pin_wants place g (h ∷ i ∷ gs) cell m e = absurd (m.0 e)

pins_named : {text : List ℕ} {groups : List ℕ} {cell : Bool} {low : ℕ} {ss : List Statement} (place : ℕ) → place < low
    → IsCellAt place groups cell → Inside text groups cell low ss → All (PinHasNames text place) ss
pins_named {text} place l m ends = All-nil (PinHasNames text place)
pins_named {text} place l m (adds {s} {ss} e f n h) =
    All-cons (PinHasNames text place) s ss (λ x y z. absurd (cc)) (pins_named place (omega arith) m h)
pins_named {text} place l m (opens {g} {gs} {cell} {s} {ss} e n w h) =
    All-cons (PinHasNames text place) s ss
    (λ x y z. w (ap (wants_names gs cell) z ∙ pin_wants place g gs cell m (sym e ∙ x)))
    (pins_named place (omega arith) (cell_after_open place s.name g gs cell (name_kind text s.name) (λ x. absurd (omega arith)) m) h)
pins_named place l m (closes {g} {gs} {cell} h) = pins_named place l (cell_after_close place g gs cell m) h

-- ---- what is found by its name

-- a statement that is looked for stands in the group, is a group and has the name
record IsFound (group : Group) (name : List ℕ) (s : Statement) : Type 0 where
  stands : s.group ≡ group.head.name
  form : is_form OfGroup s.form ≡ true
  named : word_at group.text s.name ≡ name

is_found : (group : Group) (name : List ℕ) (s : Statement) → is_in group OfGroup name s ≡ true → IsFound group name s
is_found group name s e =
    let (a, b) = and_parts (s.group == group.head.name) (is_form OfGroup s.form && bytes_eq (word_at group.text s.name) name) e in
    let (c, d) = and_parts (is_form OfGroup s.form) (bytes_eq (word_at group.text s.name) name) b in
    record {
      stands = grind (arith, nat_tests);
      form = c;
      named = (bytes_eq-Decides (word_at group.text s.name) name).0 d;
    }

-- groups that are found have a property where each statement, with those after it, gives it
module _ (P : Group → Type 0) (group : Group) (name : List ℕ) where
  found_one : (s : Statement) (ss : List Statement) → (IsFound group name s → P (group_of group.text s ss))
      → All P (groups_from group name ss) → All P (groups_from group name (s ∷ ss))
  unfolding groups_from
  found_one s ss h all = by_test (is_in group OfGroup name s) refl
    where
      by_test : (x : Bool) → is_in group OfGroup name s ≡ x
          → All P (if x then group_of group.text s ss ∷ groups_from group name ss else groups_from group name ss)
      by_test true e = All-cons P (group_of group.text s ss) (groups_from group name ss) (h (is_found group name s e)) all
      by_test false e = all

  found_none : All P (groups_from group name [])
  unfolding groups_from
  found_none = All-nil P

-- the pins of a group have names
pins_of_cell : (cell : Group) (ss : List Statement) → All (PinHasNames cell.text cell.head.name) ss → All HasArguments (groups_from cell (codes "pin") ss)
pins_of_cell cell [] all = found_none HasArguments cell (codes "pin")
pins_of_cell cell (s ∷ ss) all =
    found_one HasArguments cell (codes "pin") s ss
    (λ f. All-head (PinHasNames cell.text cell.head.name) s ss all f.stands f.form (ap word_kind f.named))
    (pins_of_cell cell ss (All-tail (PinHasNames cell.text cell.head.name) s ss all))

-- ---- the cells of a library

-- a cell and its pins have names for arguments
pub record HasItsNames (cell : Group) : Type 0 where
  pub arguments : HasArguments cell
  pub pins : All HasArguments (pin_groups cell)

-- of the groups that are open, only the first may be the one whose name begins here
abbrev IsLastAt : ℕ → List ℕ → Type 0
IsLastAt place [] = ⊤
IsLastAt place (g ∷ []) = ⊤
IsLastAt place (g ∷ h ∷ gs) = (g ≡ place → ⊥) × IsLastAt place (h ∷ gs)

last_after_close : (place g : ℕ) (gs : List ℕ) → IsLastAt place (g ∷ gs) → IsLastAt place gs
last_after_close place g [] m = tt
last_after_close place g (h ∷ gs) m = m.1

alone : (place g : ℕ) (gs : List ℕ) → IsLastAt place (g ∷ gs) → g ≡ place → gs ≡ []
alone place g [] m e = refl
alone place g (h ∷ gs) m e = absurd (m.0 e)

cell_named : (text : List ℕ) (g low : ℕ) (gs : List ℕ) (cell : Bool) (s : Statement) (ss : List Statement) → gs ≡ [] → g < s.name
    → name_kind text s.name ≡ Cell → (wants_names gs cell (name_kind text s.name) ≡ true → are_names (list_of text s) ≡ true)
    → Inside text (s.name ∷ g ∷ gs) (in_cell_after gs cell (name_kind text s.name)) (suc s.name) ss → HasItsNames (group_of text s ss)
cell_named text g low [] cell s ss e l k w h =
    let f : is_cell (name_kind text s.name) ≡ true = rw k refl in
    let all : All (PinHasNames text s.name) ss = pins_named s.name (omega arith) ((λ x. f), (λ x. absurd (omega (arith, x, l)))) h in
    record {
      arguments = w f;
      pins = pins_of_cell (group_of text s ss) (inside s ss) (All-take (PinHasNames text s.name) (position_or_len _ ss) ss all);
    }
cell_named text g low (p ∷ gs) cell s ss e l k w h = absurd (cc)

module _ (library : Group) where
  cells_named : {groups : List ℕ} {cell : Bool} {low : ℕ} {ss : List Statement} → library.head.name < low → IsLastAt library.head.name groups
      → Inside library.text groups cell low ss → All HasItsNames (groups_from library (codes "cell") ss)
  cells_named l m ends = found_none HasItsNames library (codes "cell")
  cells_named l m (adds {s} {ss} e f n h) =
      found_one HasItsNames library (codes "cell") s ss (λ x. let y = x.form in absurd (cc)) (cells_named (omega arith) m h)
  cells_named l m (opens {g} {gs} {cell} {low} {s} {ss} e n w h) =
      found_one HasItsNames library (codes "cell") s ss
      (λ x.
      let y : g ≡ library.head.name = sym e ∙ x.stands in
      cell_named library.text g low gs cell s ss (alone library.head.name g gs m y) (omega (arith, y)) (ap word_kind x.named) w h)
      (cells_named (omega arith) ((λ x. absurd (omega (arith, x))), m) h)
  cells_named l m (closes {g} {gs} h) = cells_named l (last_after_close library.head.name g gs m) h

pub library_named : (text : List ℕ) → IsLibrary text → All HasItsNames (cell_groups (library_of text))
library_named text is = let w = read text is in rw w.cut (cells_named (record { text = text; head = w.head; body = w.body }) (omega arith) tt w.inside)
