use Rattle.std.proofs.Common.{◌≡◌, ◌++◌}
use Rattle.vg_design.specs.Parts.{cells_of}
use Rattle.vg_report.proofs.ReportLemmas.{lines_to}
use Rattle.vg_report.proofs.placement.print_cells.Given as goal

abbrev pub invariant-node : goal.invariant-node
invariant-node l = l.to.items ≡ l.initial.to.items ++ lines_to (cells_of l.repeaters) l.names l.initial.placement.cells l.at
