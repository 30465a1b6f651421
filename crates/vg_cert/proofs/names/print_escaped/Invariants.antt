use Rattle.std.proofs.Common.{◌≡◌, ◌++◌, take}
use Rattle.vg_cert.specs.Names.{escaped}
use Rattle.vg_cert.proofs.names.print_escaped.Given as goal

abbrev pub invariant-byte : goal.invariant-byte
invariant-byte l = l.to.items ≡ l.initial.to.items ++ escaped (take l.byte-index l.name)
