-- A tree as a list of nodes.
use Rattle.std.specs.Prelude.{◌≡◌, ℕ, ◌<◌, ◌≤◌, ◌^◌, List, length, slice_index_or}
use Rattle.std.specs.List.{sum_by}
use Rattle.elmore.specs.declared.tree.Node.{Node}

-- past the end of the list a number is a root of its own, without resistance and capacitance
abbrev pub node_at : List Node → ℕ → Node
node_at nodes v = slice_index_or nodes v (record { parent = v; r = 0; c = 0 })

abbrev pub parent_of : List Node → ℕ → ℕ
parent_of nodes v = (node_at nodes v).parent

abbrev pub resistance : List Node → ℕ → ℕ
resistance nodes v = (node_at nodes v).r

abbrev pub capacitance : List Node → ℕ → ℕ
capacitance nodes v = (node_at nodes v).c

-- the root is node 0, its own parent and without a resistor; every other parent has a smaller number than its child
pub record IsTree (nodes : List Node) : Type 0 where
  pub some_node : 0 < length nodes
  pub root : parent_of nodes 0 ≡ 0
  pub bare_root : resistance nodes 0 ≡ 0
  pub smaller : (v : ℕ) → 0 < v → v < length nodes → parent_of nodes v < v

abbrev pub total_resistance : List Node → ℕ
total_resistance nodes = sum_by (λ node. node.r) nodes

abbrev pub total_capacitance : List Node → ℕ
total_capacitance nodes = sum_by (λ node. node.c) nodes

-- all resistors together have at most 10^12 milliohms, all capacitors 10^11 attofarads
pub record IsWithinLimits (nodes : List Node) : Type 0 where
  pub resistances : total_resistance nodes ≤ 10 ^ 12
  pub capacitances : total_capacitance nodes ≤ 10 ^ 11
