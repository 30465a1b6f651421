use Rattle.std.proofs.Common.{◌≡◌, take}
use Rattle.elmore.specs.Trees.{total_capacitance}
use Rattle.vg_width.proofs.limits.total_capacitance.Given as goal

abbrev pub invariant-capacitors : goal.invariant-capacitors
invariant-capacitors l = total_capacitance (take l.node-index l.nodes) ≡ l.total
