use Rattle.std.proofs.Common.{◌≡◌, take}
use Rattle.spef_write.specs.Printed.{printed_all}
use Rattle.spef_write.proofs.write.print_nodes.Given as goal

abbrev pub invariant-node : goal.invariant-node
invariant-node l = l.nodes ≡ printed_all l.chars l.net.caps 0 (take l.at l.net.nodes)
