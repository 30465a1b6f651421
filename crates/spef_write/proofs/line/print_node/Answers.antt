use Rattle.std.proofs.Common.{◌<◌, ◌++◌, ◌∷◌, [], length, ap, ◌∙◌, arith}
use Rattle.std.proofs.lemmas.Bool.Decides.{nat_tests}
use Rattle.vg_scan.specs.Printed.{printed}
use Rattle.spef_write.proofs.PrintLemmas.{node_printed}
use Rattle.spef_write.proofs.line.print_node.Goals as goal

pub print_spef_name-requires-2 : goal.print_spef_name-requires-2
print_spef_name-requires-2 c = record {
  some = grind (arith, nat_tests);
  solid = c.requires.leaf;
}

pub returns-clause-printed : goal.returns-clause-printed
returns-clause-printed c =
    let old = c.args.to.now.items in
    let chars = c.args.chars.now in
    let owner = c.args.owner.now in
    let leaf = c.args.leaf.now in
    let some : 0 < length leaf = grind (arith, nat_tests) in
    c.in_ok-print_spef_name-2.ensures.printed
    ∙ ap (λ xs. xs ++ printed chars leaf)
    (c.in_ok-push.ensures.items ∙ ap (λ xs. xs ++ chars.delimiter ∷ []) c.in_ok-print_spef_name.ensures.printed)
    ∙ node_printed chars old owner leaf some
