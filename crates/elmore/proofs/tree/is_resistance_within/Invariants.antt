use Rattle.std.proofs.Common.{◌≡◌, ◌+◌, take}
use Rattle.elmore.specs.Trees.{total_resistance}
use Rattle.elmore.specs.declared.tree.TheConstants.{MOST_RESISTANCE}
use Rattle.elmore.proofs.tree.is_resistance_within.Given as goal

abbrev pub invariant-resistors : goal.invariant-resistors
invariant-resistors l = total_resistance (take l.node-index l.nodes) + l.left ≡ MOST_RESISTANCE
