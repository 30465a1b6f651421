use Rattle.vg_total.specs.Turns.{IsSweepTo, left_in}
use Rattle.vg_total.proofs.totals.total.Given as goal

abbrev pub invariant-turns : goal.invariant-turns
invariant-turns l = IsSweepTo l.fronts l.cap l.next l.points.items

abbrev pub decreases-turns : goal.decreases-turns
decreases-turns l = left_in l.fronts l.next
