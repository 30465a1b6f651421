use Rattle.std.proofs.Common.{◌≡◌, ◌-◌, ◌≤◌, ◌++◌, map}
use Rattle.std.specs.List.{range_with_len}
use Rattle.vg_change.specs.Placed.{new_cell}
use Rattle.vg_change.proofs.cells.push_cells.Given as goal

abbrev pub invariant-stage : goal.invariant-stage
invariant-stage l = record {
  some : 1 ≤ l.stage;
  put : l.to ≡ l.initial.to ++ map (new_cell l.netlist l.id l.x) (range_with_len 1 (l.stage - 1));
}
