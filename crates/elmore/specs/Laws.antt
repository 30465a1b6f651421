-- What a user of Elmore's model knows of every tree.
use Rattle.std.specs.Prelude.{◌≡◌, ℕ, ◌+◌, ◌*◌, ◌<◌, List, length}
use Rattle.std.specs.List.{filter, sum_by}
use Rattle.elmore.specs.Path.{is_child, nodes as node_numbers}
use Rattle.elmore.specs.Trees.{IsTree, parent_of, resistance, capacitance, total_capacitance}
use Rattle.elmore.specs.Wire.{delay_in, downstream_in}
use Rattle.elmore.specs.declared.tree.Node.{Node}

-- the root has no delay, and every other node its parent's and its own resistor times what this charges
abbrev pub DelaySteps : Type 0
DelaySteps = (nodes : List Node) → IsTree nodes
    → (delay_in nodes 0 ≡ 0)
    × ((v : ℕ) → 0 < v → v < length nodes
    → delay_in nodes v ≡ delay_in nodes (parent_of nodes v) + resistance nodes v * downstream_in nodes v)

-- the nodes whose parent is v
abbrev pub children_of : List Node → ℕ → List ℕ
children_of nodes v = filter (is_child (parent_of nodes) v) (node_numbers (length nodes))

-- a node's downstream capacitance is its own capacitance and its children's downstream capacitances
abbrev pub DownstreamSteps : Type 0
DownstreamSteps = (nodes : List Node) → IsTree nodes
    → (v : ℕ) → v < length nodes
    → downstream_in nodes v ≡ capacitance nodes v + sum_by (downstream_in nodes) (children_of nodes v)

-- all capacitances are below the root
abbrev pub RootDrivesAll : Type 0
RootDrivesAll = (nodes : List Node) → IsTree nodes → downstream_in nodes 0 ≡ total_capacitance nodes
