use Rattle.std.proofs.Common.{◌≡◌, ◌++◌, take}
use Rattle.std.specs.List.{flat_map}
use Rattle.vg_design.specs.Parts.{cells_of}
use Rattle.vg_report.specs.Reports.{point_report}
use Rattle.vg_report.proofs.placement.print_points.Given as goal

abbrev pub invariant-point : goal.invariant-point
invariant-point l = l.to.items ≡ l.initial.to.items ++ flat_map (point_report (cells_of l.repeaters) l.names) (take l.at l.points)
