-- The function of an output pin that is an input, inverted or not. Source: Liberty User Guide, Synopsys, on the
-- attribute `function` and its operators.
use Rattle.std.specs.Prelude.{ℕ, Bool, false, not, List, [], ◌∷◌, ◌++◌, filter}
use Rattle.vg_scan.specs.Lines.{is_ink}

-- A text reduces to an input, inverted or not: it is the input's name, such a text in brackets, `!` before such a text,
-- or such a text followed by `'`. Each `!` and each `'` inverts.
pub data Reduces (input : List ℕ) : List ℕ → Bool → Type 0 where
  by_name : Reduces input input false
  in_brackets : {text : List ℕ} {inverted : Bool} → Reduces input text inverted
      → Reduces input (40 ∷ text ++ 41 ∷ []) inverted
  after_not : {text : List ℕ} {inverted : Bool} → Reduces input text inverted → Reduces input (33 ∷ text) (not inverted)
  before_not : {text : List ℕ} {inverted : Bool} → Reduces input text inverted
      → Reduces input (text ++ 39 ∷ []) (not inverted)

-- the text of a function does, where its blanks are passed over
abbrev pub ReducesTo : List ℕ → List ℕ → Bool → Type 0
ReducesTo text input inverted = Reduces input (filter is_ink text) inverted
