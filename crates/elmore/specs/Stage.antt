-- Stages and loads of a forest whose nodes have capacitances c and at most one cell each.
-- A stage is what one cell, or the driver, has to charge: the wire down to the next cells.
use Rattle.std.specs.Prelude.{ℕ, ◌+◌, Bool, not, ◌&&◌, ◌||◌, ◌==◌, Option, Some, None, drop}
use Rattle.std.specs.List.{list_all, filter, sum_by}
use Rattle.elmore.specs.Path.{is_over, way, nodes}
use Rattle.elmore.specs.Cells.{has_cell, input_capacitance}
use Rattle.elmore.specs.declared.rep.Rep.{Rep}

-- v is w or above it, and no node after v down to w has a cell
unfoldable pub in_stage : (ℕ → ℕ) → (ℕ → Option Rep) → ℕ → ℕ → Bool
in_stage parent cell v w = is_over parent v w && list_all (λ u. not (has_cell cell u)) (way parent v w)

-- w is strictly below v, has a cell, and no node strictly between has one
unfoldable pub ends_stage : (ℕ → ℕ) → (ℕ → Option Rep) → ℕ → ℕ → Bool
ends_stage parent cell v w =
    is_over parent v w && not (w == v) && has_cell cell w
    && list_all (λ u. not (has_cell cell u)) (drop 1 (way parent v w))

-- a stage begins at the root and at each cell
abbrev pub is_head : (ℕ → Option Rep) → ℕ → Bool
is_head cell v = (v == 0) || has_cell cell v

-- the capacitances of the stage of v, and the input capacitances of the cells that end it
unfoldable pub load : (ℕ → ℕ) → (ℕ → ℕ) → (ℕ → Option Rep) → ℕ → ℕ → ℕ
load parent c cell n v =
    sum_by c (filter (in_stage parent cell v) (nodes n))
    + sum_by (λ w. input_capacitance (cell w)) (filter (ends_stage parent cell v) (nodes n))

-- what is seen of a node from above: the input capacitance of its cell, or without one its load
abbrev pub seen : Option Rep → ℕ → ℕ
seen None load = load
seen (Some rep) load = rep.cin

unfoldable pub input_load : (ℕ → ℕ) → (ℕ → ℕ) → (ℕ → Option Rep) → ℕ → ℕ → ℕ
input_load parent c cell n v = seen (cell v) (load parent c cell n v)
