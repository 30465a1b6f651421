use Rattle.std.proofs.Common.{length}
use Rattle.rc_tree.specs.Links.{AreLinksFrom}
use Rattle.rc_tree.proofs.links.fill.Given as goal

abbrev pub invariant-edges : goal.invariant-edges
invariant-edges l = AreLinksFrom l.j (length l.fn.first) l.edges l.first l.next
