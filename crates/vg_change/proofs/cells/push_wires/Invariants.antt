use Rattle.std.proofs.Common.{◌≡◌, ◌-◌, ◌≤◌, ◌++◌, map}
use Rattle.std.specs.List.{range_with_len}
use Rattle.vg_split.specs.NewNames.{net_name}
use Rattle.vg_split.specs.Splits.{number_of}
use Rattle.vg_change.proofs.cells.push_wires.Given as goal

abbrev pub invariant-stage : goal.invariant-stage
invariant-stage l = record {
  some : 1 ≤ l.stage;
  put : l.to ≡ l.initial.to ++ map (λ k. net_name l.x.prefix (number_of l.x k)) (range_with_len 1 (l.stage - 1));
}
