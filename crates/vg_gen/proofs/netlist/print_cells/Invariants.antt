use Rattle.std.proofs.Common.{◌≡◌, ◌++◌}
use Rattle.vg_gen.specs.Lines.{lined}
use Rattle.vg_gen.specs.Texts.{branch_cells}
use Rattle.vg_gen.proofs.netlist.print_cells.Given as goal

abbrev pub invariant-cell : goal.invariant-cell
invariant-cell l = l.to.items ≡ l.initial.to.items ++ lined (branch_cells l.at)
