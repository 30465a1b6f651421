use Rattle.std.proofs.Common.{◌≡◌, ◌++◌, take}
use Rattle.std.specs.List.{flat_map}
use Rattle.mode_sta.specs.Lines.{net_line}
use Rattle.mode_sta.proofs.lines.print_nets.Given as goal

abbrev pub invariant-net : goal.invariant-net
invariant-net l = l.to.items ≡ l.initial.to.items ++ flat_map net_line (take l.net-index l.nets)
