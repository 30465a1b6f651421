use Rattle.std.proofs.Common.{take}
use Rattle.spef_write.specs.Charges.{AreSums}
use Rattle.spef_write.proofs.charge.sums.Given as goal

abbrev pub invariant-cap : goal.invariant-cap
invariant-cap l = AreSums l.count (take l.cap-index l.caps) l.sums.items
