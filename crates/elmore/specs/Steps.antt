-- What the functions between are told of a tree with cells.
use Rattle.std.specs.Prelude.{◌≡◌, ℕ, ◌+◌, ◌<◌, ◌≤◌, ◌&&◌, ◌^◌, Bool, false, List, length, slice_index_or, Option, ℤ, pos, ◌≤ℤ◌}
use Rattle.std.specs.List.{sum_by, All}
use Rattle.elmore.specs.Cells.{rep_of, input_capacitance}
use Rattle.elmore.specs.Placed.{IsPlacementOf}
use Rattle.elmore.specs.Trees.{IsTree, total_resistance, total_capacitance}
use Rattle.elmore.specs.Problems.{IsRepWithin, greatest_load}
use Rattle.elmore.specs.declared.tree.Node.{Node}
use Rattle.elmore.specs.declared.rep.Rep.{Rep}

-- whether a node is marked
abbrev pub marked : List Bool → ℕ → Bool
marked marks v = slice_index_or marks v false

-- the capacitances of the nodes, and the input capacitances of the cells: no load is greater
abbrev pub placed_capacitance : List Node → List Rep → List (Option ℕ) → ℕ
placed_capacitance tree reps cells =
    total_capacitance tree + sum_by (λ cell. input_capacitance (rep_of reps cell)) cells

-- both marks stand at a node exactly where each of them does
abbrev pub AreBoth : List Bool → List Bool → List Bool → Type 0
AreBoth one other both = (v : ℕ) → v < length one → marked both v ≡ (marked one v && marked other v)

-- the part of a problem's limits that its net has to keep
abbrev pub IsNetWithin : List Node → List Bool → List Rep → Type 0
IsNetWithin tree places reps =
    (length tree ≤ 65536) × (total_resistance tree ≤ 10 ^ 12) × (greatest_load tree places reps ≤ 10 ^ 11)

-- a sum of capacitances, with much room to 2^127 where a machine's integer ends
pub record IsSum (z : ℤ) : Type 0 where
  pub low : pos 0 ≤ℤ z
  pub high : z ≤ℤ pos (2 ^ 100)

-- a tree with cells, and limits within which no load and no delay is too large to be computed
pub record IsPlacedTree (tree : List Node) (reps : List Rep) (cells : List (Option ℕ)) : Type 0 where
  pub a_tree : IsTree tree
  pub placement : IsPlacementOf (length tree) (length reps) cells
  pub nodes : length tree ≤ 65536
  pub resistances : total_resistance tree ≤ 10 ^ 12
  pub capacitances : placed_capacitance tree reps cells ≤ 10 ^ 11
  pub each_repeater : All IsRepWithin reps
