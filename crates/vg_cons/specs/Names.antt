-- What a list of rows has for a port.
use Rattle.std.specs.Prelude.{◌≡◌, ℕ, List, [], map, Option}
use Rattle.std.specs.List.{All}
use Rattle.std.specs.Map.{lookup}
use Rattle.std.specs.Str.{bytes_eq}
use Rattle.vg_scan.specs.declared.name.NodeName.{NodeName}

abbrev pub port_value : {V : Type 0} → List (List ℕ × V) → List ℕ → Option V
port_value rows port = lookup (bytes_eq port) rows

-- a port is a node without a leaf
abbrev pub port_node : List ℕ → NodeName
port_node port = record { owner = port; leaf = [] }

-- the nodes of some rows are ports
abbrev pub AreOfPorts : {V : Type 0} → List (NodeName × V) → Type 0
AreOfPorts rows = All (λ row. row.0.leaf ≡ []) rows

-- rows of ports, by the names of these
abbrev pub by_ports : {V : Type 0} → List (NodeName × V) → List (List ℕ × V)
by_ports rows = map (λ row. (row.0.owner, row.1)) rows
