use Rattle.std.proofs.Common.{◌≡◌, ◌++◌, drop}
use Rattle.ver_patch.specs.Texts.{cell_texts}
use Rattle.ver_patch.proofs.print.print_cells.Given as goal

abbrev pub invariant-cells : goal.invariant-cells
invariant-cells l = l.to.items ++ cell_texts (drop l.number l.cells) ≡ l.initial.to.items ++ cell_texts l.cells
