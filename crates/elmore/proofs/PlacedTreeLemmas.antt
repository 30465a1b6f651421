-- Loads and delays of a tree with cells within its limits.
use Rattle.std.proofs.Common.{◌≡◌, ℕ, ◌+◌, ◌*◌, ◌<◌, ◌≤◌, ◌^◌, List, ap, sym, subst, arith, inl, inr, Option, None, Some, length, false, pos, to_z, of_z}
use Rattle.std.proofs.lemmas.Bool.{cases_lt}
use Rattle.std.proofs.lemmas.List.{get_or_past}
use Rattle.std.proofs.lemmas.List.Elements.{All-get_or}
use Rattle.std.proofs.lemmas.Int.{ints}
use mir.Syntax.{w128}
use Rattle.elmore.proofs.FitLemmas.{whole}
use Rattle.std.proofs.Math.Nat.{mul-le-mul}
use Rattle.std.specs.List.{sum_by, All}
use Rattle.elmore.specs.Path.{nodes as node_numbers}
use Rattle.elmore.specs.Cells.{rep_at, rep_of, cell_at, input_capacitance, cell_delay}
use Rattle.elmore.specs.Problems.{IsRepWithin}
use Rattle.elmore.specs.Trees.{IsTree, parent_of, resistance, capacitance}
use Rattle.elmore.specs.Placed.{IsPlacementOf, placed_load, placed_input_load, placed_delay, placed_inverters}
use Rattle.elmore.specs.Steps.{IsPlacedTree, placed_capacitance}
use Rattle.elmore.specs.declared.tree.Node.{Node}
use Rattle.elmore.specs.declared.rep.Rep.{Rep}
use Rattle.elmore.proofs.SumLemmas.{sum_of_items}
use Rattle.elmore.proofs.LoadLemmas.{HaveSmallSum, load_bound}
use Rattle.elmore.proofs.PlacedDelayLemmas.{delay_self, delay_below, delay_bound, input_load_bound}
use Rattle.elmore.proofs.PlacedInverterLemmas.{step_inverters, inverters_self, inverters_below}
use Rattle.elmore.proofs.TreeLemmas.{sum_of_nodes, tree_falls, tree_of}

-- the capacitances by the numbers of the nodes
pub capacitance_sum : (tree : List Node) (reps : List Rep) (cells : List (Option ℕ)) → IsPlacementOf (length tree) (length reps) cells
    → sum_by (capacitance tree) (node_numbers (length tree)) + sum_by (λ w. input_capacitance (cell_at reps cells w)) (node_numbers (length tree))
    ≡ placed_capacitance tree reps cells
capacitance_sum tree reps cells placement =
    omega (
      arith,
      sum_of_nodes (λ n. n.c) tree,
      ap (λ (k : ℕ). sum_by (λ w. input_capacitance (cell_at reps cells w)) (node_numbers k)) placement.one_each,
      sum_of_items (λ cell. input_capacitance (rep_of reps cell)) (λ _. None) cells,
    )

-- with small capacitances each load is small
pub small_sum : (tree : List Node) (reps : List Rep) (cells : List (Option ℕ)) → IsPlacementOf (length tree) (length reps) cells
    → placed_capacitance tree reps cells ≤ 2 ^ 100 → HaveSmallSum (capacitance tree) (cell_at reps cells) (length tree)
small_sum tree reps cells placement small = omega (arith, capacitance_sum tree reps cells placement, small)

pub rep_within : (reps : List Rep) → All IsRepWithin reps → (b : ℕ) → IsRepWithin (rep_at reps b)
rep_within reps each b =
    elim (cases_lt b (length reps)) [
      | inl low ↦ All-get_or IsRepWithin reps b (record { inverts = false; cin = 0; k = 0; r = 0; cost = 0; limit = None }) low each
      | inr high ↦
          subst IsRepWithin (sym (get_or_past reps b (record { inverts = false; cin = 0; k = 0; r = 0; cost = 0; limit = None }) high))
          (record { r = omega arith; k = omega arith; cost = omega arith; cin = omega arith })
    ]

pub cell_delay_small : (reps : List Rep) → All IsRepWithin reps → (cell : Option ℕ) (load : ℕ) → load ≤ 10 ^ 11
    → cell_delay (rep_of reps cell) load ≤ 101 * 10 ^ 18
cell_delay_small reps each None load small = omega arith
cell_delay_small reps each (Some b) load small =
    let within : IsRepWithin (rep_at reps b) = rep_within reps each b in
    omega (arith, within.k, mul-le-mul within.r small)

pub load_small : (tree : List Node) (reps : List Rep) (cells : List (Option ℕ)) → IsPlacedTree tree reps cells
    → (v : ℕ) → placed_load tree reps cells v ≤ 10 ^ 11
load_small tree reps cells placed v =
    omega (
      arith,
      load_bound (parent_of tree) (capacitance tree) (cell_at reps cells) (length tree) v,
      capacitance_sum tree reps cells placed.placement,
      placed.capacitances,
    )

pub input_load_small : (tree : List Node) (reps : List Rep) (cells : List (Option ℕ)) → IsPlacedTree tree reps cells
    → (v : ℕ) → v < length tree → placed_input_load tree reps cells v ≤ 10 ^ 11
input_load_small tree reps cells placed v v_n =
    omega (
      arith,
      input_load_bound (parent_of tree) (capacitance tree) (cell_at reps cells) (length tree) v v_n,
      capacitance_sum tree reps cells placed.placement,
      placed.capacitances,
    )

pub delay_smaller : (tree : List Node) (reps : List Rep) (cells : List (Option ℕ)) → IsPlacedTree tree reps cells
    → (v : ℕ) → v < length tree → placed_delay tree reps cells 0 v ≤ 9 * 10 ^ 24
delay_smaller tree reps cells placed v v_n =
    omega (
      arith,
      delay_bound (parent_of tree) (length tree) (tree_of tree placed.a_tree) (resistance tree) (capacitance tree) (cell_at reps cells) (10 ^ 11) (101 * 10 ^ 18)
          (input_load_small tree reps cells placed)
          (λ u u_n. cell_delay_small reps placed.each_repeater _ _ (load_small tree reps cells placed u)) v v_n,
      sum_of_nodes (λ n. n.r) tree,
      placed.resistances,
      placed.nodes,
    )

pub delay_small : (tree : List Node) (reps : List Rep) (cells : List (Option ℕ)) → IsPlacedTree tree reps cells
    → (v : ℕ) → v < length tree → placed_delay tree reps cells 0 v ≤ 10 ^ 25
delay_small tree reps cells placed v v_n = omega (arith, delay_smaller tree reps cells placed v v_n)

-- so it is whole in a machine's integer
pub delay_whole : (tree : List Node) (reps : List Rep) (cells : List (Option ℕ)) → IsPlacedTree tree reps cells
    → (v : ℕ) → v < length tree → to_z w128 (of_z w128 (pos (placed_delay tree reps cells 0 v))) ≡ pos (placed_delay tree reps cells 0 v)
delay_whole tree reps cells placed v v_n =
    let small : placed_delay tree reps cells 0 v ≤ 10 ^ 25 = delay_small tree reps cells placed v v_n in
    whole (pos (placed_delay tree reps cells 0 v)) (omega (arith, ints)) (omega (arith, ints))

-- the root's delay, and the others by one step
pub root_delay : (tree : List Node) → IsTree tree → (reps : List Rep) (cells : List (Option ℕ))
    → placed_delay tree reps cells 0 0 ≡ cell_delay (cell_at reps cells 0) (placed_load tree reps cells 0)
root_delay tree t reps cells =
    delay_self (parent_of tree) (tree_falls tree t) (resistance tree) (capacitance tree) (cell_at reps cells) (length tree) 0

pub next_delay : (tree : List Node) → IsTree tree → (reps : List Rep) (cells : List (Option ℕ)) (v : ℕ) → 0 < v → v < length tree
    → placed_delay tree reps cells 0 v
    ≡ placed_delay tree reps cells 0 (parent_of tree v)
    + (resistance tree v * placed_input_load tree reps cells v + cell_delay (cell_at reps cells v) (placed_load tree reps cells v))
next_delay tree t reps cells v v_0 v_n =
    delay_below (parent_of tree) (tree_falls tree t) (resistance tree) (capacitance tree) (cell_at reps cells) (length tree) 0 v
    (λ e. omega (arith, t.smaller v v_0 v_n)) (λ e. omega arith)

-- the same for the inverters
pub root_inverters : (tree : List Node) → IsTree tree → (reps : List Rep) (cells : List (Option ℕ))
    → placed_inverters tree reps cells 0 0 ≡ step_inverters (cell_at reps cells) 0
root_inverters tree t reps cells = inverters_self (parent_of tree) (tree_falls tree t) (cell_at reps cells) 0

pub next_inverters : (tree : List Node) → IsTree tree → (reps : List Rep) (cells : List (Option ℕ)) (v : ℕ) → 0 < v → v < length tree
    → placed_inverters tree reps cells 0 v ≡ placed_inverters tree reps cells 0 (parent_of tree v) + step_inverters (cell_at reps cells) v
next_inverters tree t reps cells v v_0 v_n =
    inverters_below (parent_of tree) (tree_falls tree t) (cell_at reps cells) 0 v (λ e. omega (arith, t.smaller v v_0 v_n)) (λ e. omega arith)
