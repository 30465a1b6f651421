use Rattle.std.proofs.Common.{◌-◌}
use Rattle.vg_check.proofs.CoverLemmas.{Halving}
use Rattle.vg_check.proofs.cover.count_within.Given as goal

abbrev pub invariant-search : goal.invariant-search
invariant-search l = Halving l.entries l.load l.low l.high

abbrev pub decreases-search : goal.decreases-search
decreases-search l = l.high - l.low
