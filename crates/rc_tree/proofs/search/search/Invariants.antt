use Rattle.std.proofs.Common.{◌-◌}
use Rattle.rc_tree.specs.Search.{IsScan}
use Rattle.rc_tree.proofs.search.search.Given as goal

abbrev pub invariant-places : goal.invariant-places
invariant-places l = IsScan l.n l.root l.edges l.reached.places.items l.reached.ranks.items l.p 0

abbrev pub decreases-places : goal.decreases-places
decreases-places l = l.n - l.p
