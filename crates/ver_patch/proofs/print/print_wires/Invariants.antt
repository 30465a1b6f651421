use Rattle.std.proofs.Common.{◌≡◌, ◌++◌, take}
use Rattle.ver_patch.specs.Texts.{wire_texts}
use Rattle.ver_patch.proofs.print.print_wires.Given as goal

abbrev pub invariant-names : goal.invariant-names
invariant-names l = l.to.items ≡ l.initial.to.items ++ wire_texts (take l.number l.names)
