-- The nodes of a tree as a forest.
use Rattle.std.proofs.Common.{◌≡◌, ℕ, ◌+◌, ◌<◌, ◌≤◌, List, ap, ◌∙◌, arith, inl, inr, length, slice_index_or, ◌*◌, pos, to_z, of_z, ◌^◌}
use Rattle.std.proofs.lemmas.Bool.{cases_eq, cases_lt}
use Rattle.std.proofs.lemmas.List.{get_or_default, get_or_past}
use Rattle.std.proofs.lemmas.Int.{to_z-of_z, fits_signed_from_abs}
use Rattle.std.proofs.Math.Nat.{mul-le-mul}
use mir.Syntax.{w128}
use Rattle.std.specs.List.{sum_by}
use Rattle.elmore.specs.Path.{Falls, nodes as node_numbers}
use Rattle.elmore.specs.Trees.{IsTree, IsWithinLimits, node_at, parent_of, resistance, capacitance, total_resistance, total_capacitance}
use Rattle.elmore.specs.Wire.{delay_in, downstream_in}
use Rattle.elmore.specs.declared.tree.Node.{Node}
use Rattle.elmore.proofs.SumLemmas.{sum_of_items}
use Rattle.elmore.proofs.CutLemmas.{cut, cut_below, cut_from}
use Rattle.elmore.proofs.RootLemmas.{IsRooted}
use Rattle.elmore.proofs.WireLemmas.{downstream_bound, downstream_root, wire_delay_root, wire_delay_step, wire_delay_bound}

pub parent_past : (nodes : List Node) (v : ℕ) → length nodes ≤ v → parent_of nodes v ≡ v
parent_past nodes v h = ap (λ (n : Node). n.parent) (get_or_past nodes v (record { parent = v; r = 0; c = 0 }) h)

pub tree_falls : (nodes : List Node) → IsTree nodes → Falls (parent_of nodes)
tree_falls nodes t v =
    elim (cases_lt v (length nodes)) [
      | inl low ↦ elim (cases_eq v 0) [
        | inl e ↦ let r : parent_of nodes v ≡ 0 = ap (parent_of nodes) e ∙ t.root in omega arith
        | inr ne ↦ omega (arith, t.smaller v (omega arith) low)
      ]
      | inr high ↦ omega (arith, parent_past nodes v high)
    ]

pub tree_of : (nodes : List Node) → IsTree nodes → IsRooted (parent_of nodes) (length nodes)
tree_of nodes t = record { falls = tree_falls nodes t; root = t.root; above = t.smaller; past = parent_past nodes }

pub cut_past : (nodes : List Node) (v : ℕ) → cut (length nodes) (parent_of nodes) v ≡ v
cut_past nodes v =
    elim (cases_lt v (length nodes)) [
      | inl low ↦ cut_below (length nodes) (parent_of nodes) v low
      | inr high ↦ cut_from (length nodes) (parent_of nodes) v high ∙ parent_past nodes v high
    ]

-- what the code reads is the node
pub parent_read : (nodes : List Node) (v : ℕ) (d : Node) → v < length nodes → (slice_index_or nodes v d).parent ≡ parent_of nodes v
parent_read nodes v d h = ap (λ (n : Node). n.parent) (get_or_default nodes v d (record { parent = v; r = 0; c = 0 }) h)

pub resistance_read : (nodes : List Node) (v : ℕ) (d : Node) → v < length nodes → (slice_index_or nodes v d).r ≡ resistance nodes v
resistance_read nodes v d h = ap (λ (n : Node). n.r) (get_or_default nodes v d (record { parent = v; r = 0; c = 0 }) h)

-- a sum over the numbers of a tree's nodes is one over its nodes
pub sum_of_nodes : (f : Node → ℕ) (nodes : List Node) → sum_by (λ v. f (node_at nodes v)) (node_numbers (length nodes)) ≡ sum_by f nodes
sum_of_nodes f nodes = sum_of_items f (λ v. record { parent = v; r = 0; c = 0 }) nodes

pub load_bound : (nodes : List Node) (v : ℕ) → downstream_in nodes v ≤ total_capacitance nodes
load_bound nodes v =
    omega (arith, downstream_bound (parent_of nodes) (capacitance nodes) (length nodes) v, sum_of_nodes (λ n. n.c) nodes)

pub delay_bound : (nodes : List Node) → IsTree nodes → (v : ℕ) → v < length nodes → delay_in nodes v ≤ total_capacitance nodes * total_resistance nodes
delay_bound nodes t v v_n =
    rw (← sum_of_nodes (λ n. n.c) nodes, ← sum_of_nodes (λ n. n.r) nodes)
    (wire_delay_bound (parent_of nodes) (length nodes) (tree_of nodes t) (resistance nodes) (capacitance nodes) v v_n)

-- the root's delay, and the others by one step
pub root_delay : (nodes : List Node) → IsTree nodes → delay_in nodes 0 ≡ 0
root_delay nodes t = wire_delay_root (parent_of nodes) (tree_falls nodes t) (resistance nodes) (capacitance nodes) (length nodes)

pub next_delay : (nodes : List Node) → IsTree nodes → (v : ℕ) → 0 < v → v < length nodes
    → delay_in nodes v ≡ delay_in nodes (parent_of nodes v) + resistance nodes v * downstream_in nodes v
next_delay nodes t v v_0 v_n =
    wire_delay_step (parent_of nodes) (tree_falls nodes t) (resistance nodes) (capacitance nodes) (length nodes) v (t.smaller v v_0 v_n)

pub root_load : (nodes : List Node) → IsTree nodes → downstream_in nodes 0 ≡ total_capacitance nodes
root_load nodes t =
    downstream_root (parent_of nodes) (length nodes) (tree_of nodes t) (capacitance nodes) ∙ sum_of_nodes (λ n. n.c) nodes

-- within the limits every number of the pass is small
pub small_delay : (nodes : List Node) → IsTree nodes → IsWithinLimits nodes → (v : ℕ) → v < length nodes → delay_in nodes v ≤ 10 ^ 23
small_delay nodes t limits v v_n =
    omega (arith, delay_bound nodes t v v_n, mul-le-mul limits.capacitances limits.resistances)

pub delay_fits : (nodes : List Node) → IsTree nodes → IsWithinLimits nodes → (v : ℕ) → v < length nodes
    → to_z w128 (of_z w128 (pos (delay_in nodes v))) ≡ pos (delay_in nodes v)
delay_fits nodes t limits v v_n =
    to_z-of_z w128 (pos (delay_in nodes v))
    (fits_signed_from_abs w128 (pos (delay_in nodes v)) (omega (arith, small_delay nodes t limits v v_n)))
