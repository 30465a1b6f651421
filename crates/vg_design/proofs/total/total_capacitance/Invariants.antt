use Rattle.std.proofs.Common.{◌≡◌, take}
use Rattle.elmore.specs.Trees.{total_capacitance}
use Rattle.vg_design.proofs.total.total_capacitance.Given as goal

abbrev pub invariant-node : goal.invariant-node
invariant-node l = l.total ≡ total_capacitance (take l.node-index l.nodes)
