-- What the text of a changed netlist declares.
use Rattle.std.specs.Prelude.{◌≡◌, ℕ, false, List, ◌++◌, map, None}
use Rattle.ver_items.specs.Declarations.{Declared, declared_of}

-- what is said of an identifier, wherever it is declared
abbrev pub unplaced : Declared → Declared
unplaced d = record { place = 0; name = d.name; heading = d.heading }

-- a wire without a range
abbrev pub wire_declared : List ℕ → Declared
wire_declared name =
    record { place = 0; name = name; heading = record { direction = None; supply = false; range = None } }

-- the declarations of the new text are those of the text, places aside, with those of the new wires among them
pub record AreDeclared (text : List ℕ) (wires : List (List ℕ)) (new : List ℕ) : Type 0 where
  pub front : List Declared
  pub back : List Declared
  pub before : declared_of text ≡ front ++ back
  pub now : map unplaced (declared_of new) ≡ map unplaced front ++ (map wire_declared wires ++ map unplaced back)
