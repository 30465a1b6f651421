use Rattle.std.proofs.Common.{◌+◌, ◌++◌, ap, ◌∙◌}
use Rattle.vg_gen.specs.Lines.{cell_line, ended}
use Rattle.vg_gen.proofs.LineLemmas.{lines_more}
use Rattle.vg_gen.proofs.netlist.print_cells.Goals as goal

pub cell-preserved : goal.cell-preserved
cell-preserved c =
    c.in_ok-print_cell.ensures
    ∙ ap (λ xs. xs ++ ended (cell_line (c.cell.at + 1))) c.cell.invariant
    ∙ lines_more cell_line c.args.to.now.items c.cell.at
