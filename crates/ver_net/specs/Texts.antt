-- The nets of a module, as Verilog text. Source: IEEE Std 1364-2005, clauses 3.7 (identifiers) and 5.2.1 (selects of
-- bits).
use Rattle.std.specs.Prelude.{ℕ, Bool, true, false, List, [], ◌∷◌, ◌++◌, Option, Some, None, slice_get, option_map, unwrap_or}
use Rattle.std.specs.Fmt.{decimal}
use Rattle.ver_text.specs.Names.{escaped}
use Rattle.ver_module.specs.Netlists.{Net, Netlist}

-- an identifier of this name, escaped or as it is
abbrev pub identifier_text : Bool → List ℕ → List ℕ
identifier_text true name = escaped name
identifier_text false name = name

-- the select of a bit, if it is one
abbrev pub select_text : Option ℕ → List ℕ
select_text None = []
select_text (Some bit) = 91 ∷ decimal bit ++ 93 ∷ []

-- a net: its identifier, escaped where it first stands so in the text, and for a bit its number in brackets
abbrev pub text_of : Net → List ℕ
text_of net = identifier_text net.escaped net.base ++ select_text net.bit

-- the text of the net of this number
abbrev pub net_text : Netlist → ℕ → List ℕ
net_text netlist net = unwrap_or (option_map text_of (slice_get netlist.nets net)) []
