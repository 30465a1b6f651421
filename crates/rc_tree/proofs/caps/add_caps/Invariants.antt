use Rattle.rc_tree.proofs.CapLemmas.{HaveCaps}
use Rattle.rc_tree.proofs.caps.add_caps.Given as goal

abbrev pub invariant-caps : goal.invariant-caps
invariant-caps l = HaveCaps l.caps l.reached.places.items l.fn.nodes l.k l.nodes
