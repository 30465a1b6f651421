-- What reading the texts of nodes answers.
use Rattle.std.specs.Prelude.{◌≡◌, ℕ, List, Option, Some, None, Result, Ok, Err}
use Rattle.vg_scan.specs.declared.fault.NameFault.{NameFault}
use Rattle.vg_scan.specs.declared.fault.NameFault.TheVariants.{Bad, Memory}
use Rattle.vg_scan.specs.declared.name.NodeName.{NodeName}
use Rattle.spef_file.specs.Files.{File}
use Rattle.spef_nodes.specs.Names.{node_in}
use Rattle.spef_net.specs.Statements.{Stated, both, ground, coupling, resistor, value_in}
use Rattle.spef_net.specs.Builders.{PartialNet, Owns}

-- the node's number where it is the net's, or none
abbrev pub Sees : Result (Option ℕ) NameFault → List ℕ → PartialNet → Option NodeName → PartialNet → Type 0
Sees (Ok found) net old o new = (node : NodeName) × (o ≡ Some node) × Owns (Ok found) net old node new
Sees (Err Bad) net old o new = o ≡ None
Sees (Err Memory) net old o new = Unit {0}

-- the nodes that two texts name, if both name one
abbrev pub two_in : File → List ℕ → List ℕ → Option (NodeName × NodeName)
two_in file a b = both (node_in file a) (node_in file b)

-- what lines of a capacitor to the ground, of one between two nodes and of a resistor say, by their texts
abbrev pub ground_in : File → List ℕ → List ℕ → Stated
ground_in file node value = ground (node_in file node) (value_in file.c_places value)

abbrev pub coupling_in : File → List ℕ → List ℕ → List ℕ → Stated
coupling_in file a b value = coupling (two_in file a b) (value_in file.c_places value)

abbrev pub resistor_in : File → List ℕ → List ℕ → List ℕ → Stated
resistor_in file a b value = resistor (two_in file a b) (value_in file.r_places value)

-- the numbers of two nodes, one after the other
abbrev pub SeesTwo : Result (Option ℕ × Option ℕ) NameFault → List ℕ → PartialNet
    → Option (NodeName × NodeName) → PartialNet → Type 0
SeesTwo (Ok found) net old o new =
    (a : NodeName) × (b : NodeName) × (mid : PartialNet) × (o ≡ Some (a, b)) × Owns (Ok found.0) net old a mid
    × Owns (Ok found.1) net mid b new
SeesTwo (Err Bad) net old o new = o ≡ None
SeesTwo (Err Memory) net old o new = Unit {0}
