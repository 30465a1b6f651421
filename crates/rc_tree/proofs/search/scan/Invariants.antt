use Rattle.std.proofs.Common.{◌-◌, length}
use Rattle.rc_tree.specs.Search.{root_of}
use Rattle.rc_tree.proofs.SearchLemmas.{IsScanAt}
use Rattle.rc_tree.proofs.search.scan.Given as goal

abbrev pub invariant-edges : goal.invariant-edges
invariant-edges l = IsScanAt (length l.fn.reached.ranks.items) (root_of l.fn.reached.places.items) l.edges l.reached.places.items l.reached.ranks.items l.p l.node l.j

abbrev pub decreases-edges : goal.decreases-edges
decreases-edges l = length l.edges - l.j
