use Rattle.vg_cert.specs.Readings.{reading}
use Rattle.vg_cert.proofs.ListLemmas.{IsListUpTo}
use Rattle.vg_cert.proofs.read.read_list.Given as goal

abbrev pub invariant-pair : goal.invariant-pair
invariant-pair l = IsListUpTo (reading l.source) l.initial.place.count l.counter l.place l.list.items l.last
