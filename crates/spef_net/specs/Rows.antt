-- What lines say, by kind and in order.
use Rattle.std.specs.Prelude.{ℕ, ◌++◌, Bool, true, false, List, [], ◌∷◌, map, Option, Some, None, Ok, if◌then◌else◌}
use Rattle.std.specs.List.{filter_map, flat_map, list_any}
use Rattle.vg_scan.specs.declared.name.NodeName.{NodeName}
use Rattle.spef_net.specs.declared.net.ConnKind.{ConnKind}
use Rattle.spef_net.specs.declared.net.Direction.{Direction}
use Rattle.spef_net.specs.declared.part.Part.TheVariants.{Inducs}
use Rattle.spef_net.specs.Statements.{Opens, Connects, Star, Ground, Coupling, Resistor}
use Rattle.spef_nodes.specs.Names.{is_own}
use Rattle.spef_nodes.specs.Members.{distinct}
use Rattle.spef_net.specs.Statements.{Stated}

abbrev pub conn_in : Stated → Option (ConnKind × NodeName × Direction)
conn_in (Ok (Connects kind direction node _)) = Some (kind, node, direction)
conn_in _ = None

-- a connection's node and note
abbrev pub joined_in : Stated → Option (NodeName × List ℕ)
joined_in (Ok (Connects _ _ node note)) = Some (node, note)
joined_in _ = None

-- the node and the note of a `*N` line
abbrev pub starred_in : Stated → Option (NodeName × List ℕ)
starred_in (Ok (Star node note)) = Some (node, note)
starred_in _ = None

abbrev pub conns_of : List Stated → List (ConnKind × NodeName × Direction)
conns_of lines = filter_map conn_in lines

abbrev pub joined_of : List Stated → List (NodeName × List ℕ)
joined_of lines = filter_map joined_in lines

abbrev pub starred_of : List Stated → List (NodeName × List ℕ)
starred_of lines = filter_map starred_in lines

-- the nodes of the connections
abbrev pub connected_of : List Stated → List NodeName
connected_of lines = map (λ row. row.0) (joined_of lines)

-- that one of a coupling capacitor's nodes that is the net's
abbrev pub own_one : List NodeName → List ℕ → NodeName → NodeName → NodeName
own_one connected net a b = if is_own connected net a then a else b

-- a capacitor's node and capacitance
abbrev pub cap_in : List NodeName → List ℕ → Stated → Option (NodeName × ℕ)
cap_in connected net (Ok (Ground node (Ok value))) = Some (node, value)
cap_in connected net (Ok (Coupling a b (Ok value))) = Some (own_one connected net a b, value)
cap_in connected net _ = None

abbrev pub caps_of : List NodeName → List ℕ → List Stated → List (NodeName × ℕ)
caps_of connected net lines = filter_map (cap_in connected net) lines

-- a resistor's nodes and resistance
abbrev pub res_in : Stated → Option (NodeName × NodeName × ℕ)
res_in (Ok (Resistor a b (Ok value))) = Some (a, b, value)
res_in _ = None

abbrev pub ress_of : List Stated → List (NodeName × NodeName × ℕ)
ress_of lines = filter_map res_in lines

-- the net's own nodes that a line without a fault names
abbrev pub named_in : List NodeName → List ℕ → Stated → List NodeName
named_in connected net (Ok (Connects _ _ node _)) = node ∷ []
named_in connected net (Ok (Star node _)) = node ∷ []
named_in connected net (Ok (Ground node _)) = node ∷ []
named_in connected net (Ok (Coupling a b _)) = own_one connected net a b ∷ []
named_in connected net (Ok (Resistor a b _)) = a ∷ b ∷ []
named_in connected net _ = []

-- connections in order, and then the other nodes as the lines name them
abbrev pub nodes_of : List NodeName → List ℕ → List Stated → List NodeName
nodes_of connected net lines = distinct (connected ++ flat_map (named_in connected net) lines)

abbrev pub is_inductance : Stated → Bool
is_inductance (Ok (Opens Inducs)) = true
is_inductance _ = false

abbrev pub is_inductive : List Stated → Bool
is_inductive lines = list_any is_inductance lines
