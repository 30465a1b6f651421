use Rattle.std.proofs.Common.{◌≡◌, ◌≤◌, ◌++◌, filter, length, map, take}
use Rattle.spef_write.specs.Printed.{cap_rows, is_loaded, printed_at}
use Rattle.spef_write.specs.Texts.{lined}
use Rattle.spef_write.proofs.write.print_caps.Given as goal

abbrev pub invariant-node : goal.invariant-node
invariant-node l = record {
  low : l.count ≤ l.i;
  count_is : l.count ≡ length (filter is_loaded (take l.i (map (printed_at l.nodes) l.cap_nodes)));
  said : l.to.items ≡ l.initial.to.items ++ lined (cap_rows l.header (take l.i (map (printed_at l.nodes) l.cap_nodes)));
}
