use Rattle.std.proofs.Common.{◌≡◌, ◌++◌}
use Rattle.std.specs.List.{flat_map, range_with_len}
use Rattle.vg_change.specs.Placed.{rewires_in}
use Rattle.vg_change.specs.Steps.{placed_by}
use Rattle.vg_change.proofs.rewires.push_rewires.Given as goal

abbrev pub invariant-stage : goal.invariant-stage
invariant-stage l = l.to ≡ l.initial.to ++ flat_map (rewires_in l.design.netlist (placed_by l.pinned.net l.x) l.x) (range_with_len 0 l.stage)
