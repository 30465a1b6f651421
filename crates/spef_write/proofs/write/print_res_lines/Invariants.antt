use Rattle.std.proofs.Common.{◌≡◌, ◌++◌, take}
use Rattle.spef_write.specs.Printed.{res_row}
use Rattle.spef_write.specs.Sections.{numbered}
use Rattle.spef_write.specs.Texts.{lined}
use Rattle.spef_write.proofs.write.print_res_lines.Given as goal

abbrev pub invariant-res : goal.invariant-res
invariant-res l = l.to.items ≡ l.initial.to.items ++ lined (numbered (res_row l.header l.nodes) 1 (take l.at l.ress))
