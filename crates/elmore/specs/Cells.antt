-- Repeaters, and the cells that a placement puts at nodes.
use Rattle.std.specs.Prelude.{ℕ, ◌+◌, ◌*◌, Bool, false, List, slice_index_or, Option, Some, None, is_some}
use Rattle.elmore.specs.declared.rep.Rep.{Rep}

-- past the end of the list a number is that of a repeater without delay
abbrev pub rep_at : List Rep → ℕ → Rep
rep_at reps b = slice_index_or reps b (record { inverts = false; cin = 0; k = 0; r = 0; cost = 0; limit = None })

abbrev pub rep_of : List Rep → Option ℕ → Option Rep
rep_of reps None = None
rep_of reps (Some b) = Some (rep_at reps b)

-- the cell that a placement has at a node: a repeater, if any
abbrev pub cell_at : List Rep → List (Option ℕ) → ℕ → Option Rep
cell_at reps cells v = rep_of reps (slice_index_or cells v None)

abbrev pub has_cell : (ℕ → Option Rep) → ℕ → Bool
has_cell cell v = is_some (cell v)

abbrev pub input_capacitance : Option Rep → ℕ
input_capacitance None = 0
input_capacitance (Some rep) = rep.cin

abbrev pub is_inverter : Option Rep → Bool
is_inverter None = false
is_inverter (Some rep) = rep.inverts

-- the delay of a cell, if there is one, into a load: its own, and its resistance times the load
abbrev pub cell_delay : Option Rep → ℕ → ℕ
cell_delay None load = 0
cell_delay (Some rep) load = rep.k + rep.r * load

abbrev pub cell_cost : Option Rep → ℕ
cell_cost None = 0
cell_cost (Some rep) = rep.cost
