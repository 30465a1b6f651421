use Rattle.std.proofs.Common.{length}
use Rattle.vg_front.specs.Seen.{AreSomeOf}
use Rattle.vg_front.proofs.stairs.Stairs.skip.Given as goal

abbrev pub invariant-stairs : goal.invariant-stairs
invariant-stairs l = AreSomeOf l.fn.self l.self

abbrev pub decreases-stairs : goal.decreases-stairs
decreases-stairs l = length l.self.ahead.items
