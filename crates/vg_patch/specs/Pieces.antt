-- The pieces of a text with replaced parts, as they are gone through: for the functions between.
use Rattle.std.specs.Prelude.{ℕ, List, [], ◌∷◌, drop}
use Rattle.vg_scan.specs.Lines.{part}
use Rattle.vg_patch.specs.Edits.{Edit, Rise}
use Rattle.vg_patch.specs.declared.patched.Place.{Place}
use Rattle.vg_patch.specs.declared.patched.Place.TheVariants.{Kept, New, End}

-- from a place on, what is kept and what is new, in turn
abbrev pub pieces_from : ℕ → List ℕ → List Edit → List (List ℕ)
pieces_from at text [] = drop at text ∷ []
pieces_from at text (e ∷ edits) = part text at e.from ∷ e.text ∷ pieces_from e.to text edits

-- the pieces that are left, with these parts
abbrev pub pieces_at : Place → List ℕ → List Edit → List (List ℕ)
pieces_at (Kept at) text edits = pieces_from at text edits
pieces_at (New at new) text edits = new.now ∷ pieces_from at text edits
pieces_at End text edits = []

-- the parts that are left stand behind the place, in a text of this length
abbrev pub IsPlace : Place → ℕ → List Edit → Type 0
IsPlace (Kept at) end edits = Rise at end edits
IsPlace (New at new) end edits = Rise at end edits
IsPlace End end edits = Unit {0}
