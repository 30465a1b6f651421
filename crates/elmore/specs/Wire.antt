-- The wire delay of Elmore: a sum over the path.
use Rattle.std.specs.Prelude.{ℕ, ◌*◌, List, length}
use Rattle.std.specs.List.{filter, sum_by}
use Rattle.elmore.specs.Path.{is_over, way, nodes as node_numbers}
use Rattle.elmore.specs.Trees.{parent_of, resistance, capacitance}
use Rattle.elmore.specs.declared.tree.Node.{Node}

-- the capacitance of v and of all nodes below it
unfoldable pub downstream : (ℕ → ℕ) → (ℕ → ℕ) → ℕ → ℕ → ℕ
downstream parent c n v = sum_by c (filter (is_over parent v) (node_numbers n))

-- each resistor on the path from the root to w times the capacitance that it charges
unfoldable pub wire_delay : (ℕ → ℕ) → (ℕ → ℕ) → (ℕ → ℕ) → ℕ → ℕ → ℕ
wire_delay parent r c n w = sum_by (λ u. r u * downstream parent c n u) (way parent 0 w)

-- the same in a tree
abbrev pub downstream_in : List Node → ℕ → ℕ
downstream_in tree v = downstream (parent_of tree) (capacitance tree) (length tree) v

abbrev pub delay_in : List Node → ℕ → ℕ
delay_in tree w = wire_delay (parent_of tree) (resistance tree) (capacitance tree) (length tree) w
