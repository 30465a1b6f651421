use Rattle.std.proofs.Common.{◌<◌, ◌++◌, ◌∷◌, [], length, ap, ◌∙◌, arith}
use Rattle.spef_write.specs.Printed.{NO_PRINTED, printed_at, star_rows}
use Rattle.spef_write.specs.Texts.{lined}
use Rattle.spef_write.proofs.PrintLemmas.{stars_more}
use Rattle.spef_write.proofs.write.print_stars.Goals as goal

pub node-preserved : goal.node-preserved
node-preserved c =
    let nodes = c.args.nodes.now in
    let within : c.node.at < length nodes = omega (arith, c.node-test.true, c.len-at-end.ensures) in
    c.in_ok-print_if_star.ensures
    ∙ ap (λ xs. xs ++ lined (star_rows (printed_at nodes c.node.at ∷ []))) c.node.invariant
    ∙ stars_more c.args.to.now.items nodes c.node.at NO_PRINTED within
