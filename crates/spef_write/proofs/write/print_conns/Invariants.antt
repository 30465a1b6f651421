use Rattle.std.proofs.Common.{◌≡◌, ◌++◌, map, take}
use Rattle.spef_write.specs.Printed.{conn_row}
use Rattle.spef_write.specs.Texts.{lined}
use Rattle.spef_write.proofs.write.print_conns.Given as goal

abbrev pub invariant-conn : goal.invariant-conn
invariant-conn l = l.to.items ≡ l.initial.to.items ++ lined (map (conn_row l.nodes) (take l.conn-index l.conns))
