use Rattle.std.proofs.Common.{◌+◌, ◌++◌, ap, ◌∙◌, get_or}
use Rattle.spef_write.specs.Printed.{res_row}
use Rattle.spef_write.specs.Texts.{ended}
use Rattle.spef_write.proofs.PrintLemmas.{numbers_more}
use Rattle.spef_write.proofs.write.print_res_lines.Goals as goal

pub res-preserved : goal.res-preserved
res-preserved c =
    let line = res_row c.args.header.now c.args.nodes.now in
    let ress = c.args.ress.now in
    c.in_ok-print_res.ensures
    ∙ ap (λ xs. xs ++ ended (line (c.res.at + 1) (get_or ress c.res.at (0, 0, 0)))) c.res.invariant
    ∙ numbers_more line c.args.to.now.items ress c.res.at (0, 0, 0) c.res-test.true
