-- Lines of the texts of a generated design.
use Rattle.std.specs.Prelude.{ℕ, List, [], ◌∷◌, ◌++◌, codes}
use Rattle.std.specs.Fmt.{decimal}
use Rattle.std.specs.List.{flat_map, join_with_byte}
use Rattle.vg_gen.specs.declared.net.Node.{Node}
use Rattle.vg_gen.specs.declared.net.Node.TheVariants.{Driver, Inner, Sink, Branch}
use Rattle.vg_gen.specs.declared.net.Resistor.{Resistor}

-- words with one blank between
abbrev pub spaced : List (List ℕ) → List ℕ
spaced words = join_with_byte 32 words

-- lines, each with its newline
abbrev pub ended : List ℕ → List ℕ
ended line = line ++ 10 ∷ []

abbrev pub lined : List (List ℕ) → List ℕ
lined lines = flat_map ended lines

-- the cell at the end of branch j
abbrev pub cell_name : ℕ → List ℕ
cell_name j = codes "s" ++ decimal j

-- a node of the net
abbrev pub node_text : Node → List ℕ
node_text Driver = codes "u1:Z"
node_text (Inner i) = codes "g:" ++ decimal i
node_text Sink = codes "u2:A"
node_text (Branch j) = cell_name j ++ codes ":A"

-- SPEF: the net's first line, with all its capacitors together (fF)
abbrev pub head_line : ℕ → List ℕ
head_line femtofarads = spaced (codes "*D_NET" ∷ codes "g" ∷ decimal femtofarads ∷ [])

-- a sink
abbrev pub sink_line : Node → List ℕ
sink_line node = spaced (codes "*I" ∷ node_text node ∷ codes "I" ∷ [])

-- capacitor i, of so many fF
abbrev pub cap_line : ℕ → ℕ → List ℕ
cap_line i femtofarads = spaced (decimal i ∷ node_text (Inner i) ∷ decimal femtofarads ∷ [])

-- resistor i
abbrev pub res_line : ℕ → Resistor → List ℕ
res_line i resistor = spaced (decimal i ∷ node_text resistor.from ∷ node_text resistor.to ∷ decimal resistor.ohms ∷ [])

-- the netlist: the cell at the end of branch j
abbrev pub cell_line : ℕ → List ℕ
cell_line j = codes "BUF " ++ (cell_name j ++ codes " (.A(g), .Z());")

-- the constraints: the sink of branch j wants the inverted signal
abbrev pub want_line : ℕ → List ℕ
want_line j = spaced (codes "want" ∷ node_text (Branch j) ∷ codes "inverted" ∷ [])
