-- New wires and new instances, as text. Source: IEEE Std 1364-2005, clauses 4.2 (nets) and 12.3.6 (connections by
-- name).
use Rattle.std.specs.Prelude.{ℕ, List, ◌++◌, codes}
use Rattle.std.specs.List.{flat_map}
use Rattle.ver_text.specs.Names.{printed}
use Rattle.ver_patch.specs.NewCells.{NewCell}

-- the declaration of a wire, behind a line's end
abbrev pub wire_text : List ℕ → List ℕ
wire_text name = codes "\nwire " ++ name ++ codes ";"

abbrev pub wire_texts : List (List ℕ) → List ℕ
wire_texts names = flat_map wire_text names

-- a connection by name
abbrev pub pin_text : List ℕ → List ℕ → List ℕ
pin_text pin net = codes "." ++ printed pin ++ codes "(" ++ net ++ codes ")"

-- an instance with its two connections, on a line
abbrev pub cell_text : NewCell → List ℕ
cell_text c = printed c.cell ++ codes " " ++ c.name ++ codes " (" ++ pin_text c.input c.from
    ++ codes ", " ++ pin_text c.output c.to ++ codes ");\n"

abbrev pub cell_texts : List NewCell → List ℕ
cell_texts cells = flat_map cell_text cells
