use Rattle.std.proofs.Common.{◌≡◌, ◌++◌, take}
use Rattle.spef_write.specs.Printed.{star_rows}
use Rattle.spef_write.specs.Texts.{lined}
use Rattle.spef_write.proofs.write.print_stars.Given as goal

abbrev pub invariant-node : goal.invariant-node
invariant-node l = l.to.items ≡ l.initial.to.items ++ lined (star_rows (take l.at l.nodes))
