use Rattle.vg_cert.specs.Readings.{reading}
use Rattle.vg_cert.proofs.NodeLemmas.{AreListsUpTo}
use Rattle.vg_cert.proofs.read.read_lists.Given as goal

abbrev pub invariant-node : goal.invariant-node
invariant-node l = AreListsUpTo (reading l.source) l.initial.place.count l.v l.place l.lists.items
