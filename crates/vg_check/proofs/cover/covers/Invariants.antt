use Rattle.std.proofs.Common.{length, ◌+◌, ◌-◌}
use Rattle.vg_check.proofs.CoverLemmas.{Walking}
use Rattle.vg_check.proofs.cover.covers.Given as goal

abbrev pub invariant-walk : goal.invariant-walk
invariant-walk l = Walking l.entries l.pairs l.at l.next

abbrev pub decreases-walk : goal.decreases-walk
decreases-walk l = (length l.entries - l.at) + (length l.pairs - l.next)
