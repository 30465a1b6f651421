-- The statements inside a library, as steps over the groups that are open.
use Rattle.std.proofs.Common.{◌≡◌, ℕ, suc, ◌≤◌, ◌&&◌, Bool, true, false, List, [], ◌∷◌}
use Rattle.lib_text.specs.declared.kind.Kind.{Kind}
use Rattle.lib_text.specs.declared.statement.Statement.{Statement}
use Rattle.lib_text.specs.declared.statement.Form.TheVariants.{Group as OfGroup}
use Rattle.lib_text.specs.Arguments.{are_names}
use Rattle.lib_text.specs.Grammar.{is_cell, is_pin}
use Rattle.lib_text.specs.Groups.{is_form, list_of, word_at}
use Rattle.lib_text.specs.Kinds.{word_kind}

-- a group of this name wants names, given the groups around the one that it stands in, and whether the second group is
-- a cell
abbrev pub wants_names : List ℕ → Bool → Kind → Bool
wants_names [] cell k = is_cell k
wants_names (p ∷ []) cell k = cell && is_pin k
wants_names (p ∷ q ∷ gs) cell k = false

-- whether the second group is a cell, inside a group of this name
abbrev pub in_cell_after : List ℕ → Bool → Kind → Bool
in_cell_after [] cell k = is_cell k
in_cell_after (p ∷ gs) cell k = cell

-- the kind of a statement's name
abbrev pub name_kind : List ℕ → ℕ → Kind
name_kind text name = word_kind (word_at text name)

-- a group has names where it wants them
abbrev pub HasWantedNames : List ℕ → List ℕ → Bool → Statement → Type 0
HasWantedNames text around cell s = wants_names around cell (name_kind text s.name) ≡ true → are_names (list_of text s) ≡ true

-- These statements come next inside a library, given the groups that are open, the innermost first, and whether the
-- second of them is a cell: one that opens no group stands in the innermost; one that does has names where it wants
-- them; and the innermost ends. Their names begin here or further on, one after another.
pub data Inside (text : List ℕ) : List ℕ → Bool → ℕ → List Statement → Type 0 where
  ends : {groups : List ℕ} {cell : Bool} {low : ℕ} → Inside text groups cell low []
  adds : {g : ℕ} {gs : List ℕ} {cell : Bool} {low : ℕ} {s : Statement} {ss : List Statement}
      → s.group ≡ g → is_form OfGroup s.form ≡ false → low ≤ s.name → Inside text (g ∷ gs) cell (suc s.name) ss
      → Inside text (g ∷ gs) cell low (s ∷ ss)
  opens : {g : ℕ} {gs : List ℕ} {cell : Bool} {low : ℕ} {s : Statement} {ss : List Statement}
      → s.group ≡ g → low ≤ s.name → HasWantedNames text gs cell s
      → Inside text (s.name ∷ g ∷ gs) (in_cell_after gs cell (name_kind text s.name)) (suc s.name) ss
      → Inside text (g ∷ gs) cell low (s ∷ ss)
  closes : {g : ℕ} {gs : List ℕ} {cell : Bool} {low : ℕ} {ss : List Statement} → Inside text gs cell low ss → Inside text (g ∷ gs) cell low ss

-- where one group is open, it does not matter what was a cell
one_open : {text : List ℕ} {g low : ℕ} {cell : Bool} {ss : List Statement} (cell' : Bool) → Inside text (g ∷ []) cell low ss → Inside text (g ∷ []) cell' low ss
one_open cell' ends = ends
one_open cell' (adds g f m h) = adds g f m (one_open cell' h)
one_open cell' (opens g m n h) = opens g m n h
one_open cell' (closes ends) = ends

pub after_group : {text : List ℕ} {g low : ℕ} {ss : List Statement} (gs : List ℕ) (cell : Bool) (k : Kind)
    → Inside text (g ∷ gs) cell low ss → Inside text (g ∷ gs) (in_cell_after gs cell k) low ss
after_group [] cell k h = one_open (is_cell k) h
after_group (p ∷ gs) cell k h = h

-- the statements of a library: its own, and those inside it
pub record IsWhole (text : List ℕ) (all : List Statement) : Type 0 where
  pub head : Statement
  pub body : List Statement
  pub cut : all ≡ head ∷ body
  pub inside : Inside text (head.name ∷ []) false (suc head.name) body
