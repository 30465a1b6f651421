use Rattle.vg_convex.proofs.Scans.{IsScan}
use Rattle.vg_convex.proofs.Walks.{left_from}
use Rattle.vg_convex.proofs.scan.scan.Given as goal

abbrev pub invariant-scan : goal.invariant-scan
invariant-scan g l = IsScan l.pool g.xs l.rep l.next l.found l.fn.steps l.steps

abbrev pub decreases-scan : goal.decreases-scan
decreases-scan g l = left_from l.pool l.next
