use Rattle.std.proofs.Common.{◌<◌, ◌++◌, length, ap, ◌∙◌, codes, arith}
use Rattle.std.proofs.lemmas.Bool.Decides.{nat_tests}
use Rattle.spef_write.specs.Printed.{res_row}
use Rattle.spef_write.specs.Sections.{numbered}
use Rattle.spef_write.specs.Texts.{lined}
use Rattle.spef_write.proofs.PrintLemmas.{part_printed}
use Rattle.spef_write.proofs.write.print_ress.Goals as goal

pub returns : goal.returns
returns c =
    let line = res_row c.args.header.now c.args.nodes.now in
    let ress = c.args.ress.now in
    let some : 0 < length ress = grind (arith, nat_tests) in
    c.in_ok-print_res_lines.ensures
    ∙ ap (λ xs. xs ++ lined (numbered line 1 ress)) c.in_ok-extend_from_slice.ensures.items
    ∙ part_printed line c.args.to.now.items (codes "*RES") ress some
