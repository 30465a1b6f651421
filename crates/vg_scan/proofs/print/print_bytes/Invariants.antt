use Rattle.std.proofs.Common.{◌≡◌, ◌++◌, take}
use Rattle.vg_scan.specs.Printed.{printed}
use Rattle.vg_scan.proofs.print.print_bytes.Given as goal

abbrev pub invariant-byte : goal.invariant-byte
invariant-byte l = l.to.items ≡ l.initial.to.items ++ printed l.chars (take l.byte-index l.name)
