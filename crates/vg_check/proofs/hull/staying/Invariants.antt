use Rattle.vg_check.specs.Hulls.{IsReady}
use Rattle.vg_check.proofs.hull.staying.Given as goal

abbrev pub invariant-points : goal.invariant-points
invariant-points l = IsReady l.pairs l.next l.points l.top

abbrev pub decreases-points : goal.decreases-points
decreases-points l = l.top
