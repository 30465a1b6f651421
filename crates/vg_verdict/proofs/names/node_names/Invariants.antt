use Rattle.std.proofs.Common.{◌≡◌, take}
use Rattle.vg_design.specs.Nets.{names_of}
use Rattle.vg_verdict.proofs.names.node_names.Given as goal

abbrev pub invariant-node : goal.invariant-node
invariant-node l = l.names.items ≡ take l.at (names_of l.net.ready.pinned.net.par l.net.ready.order)
