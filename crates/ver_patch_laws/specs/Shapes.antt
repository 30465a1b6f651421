-- The instances of a netlist by names, without what their pins are linked to.
use Rattle.std.specs.Prelude.{ℕ, List, [], ◌∷◌, map}
use Rattle.ver_module.specs.Netlists.{Instance}
use Rattle.ver_patch.specs.NewCells.{NewCell}

-- An instance by its name, its cell and the names of its pins.
pub record Shape : Type 0 where
  pub name : List ℕ
  pub cell : List ℕ
  pub pins : List (List ℕ)

abbrev pub shape_of : Instance → Shape
shape_of i = record { name = i.name; cell = i.cell; pins = map (λ p. p.name) i.pins }

-- a new instance has its two pins
abbrev pub new_shape : NewCell → Shape
new_shape c = record { name = c.name; cell = c.cell; pins = c.input ∷ c.output ∷ [] }
