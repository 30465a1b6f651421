use Rattle.std.proofs.Common.{◌≡◌, ◌+◌, take}
use Rattle.elmore.specs.Trees.{total_capacitance}
use Rattle.elmore.specs.declared.tree.TheConstants.{MOST_CAPACITANCE}
use Rattle.elmore.proofs.tree.capacitance_left.Given as goal

abbrev pub invariant-capacitors : goal.invariant-capacitors
invariant-capacitors l = total_capacitance (take l.node-index l.nodes) + l.left ≡ MOST_CAPACITANCE
