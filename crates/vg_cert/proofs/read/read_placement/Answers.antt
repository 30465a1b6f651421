use Rattle.vg_cert.specs.Readings.{reading}
use Rattle.vg_cert.proofs.PlaceLemmas.{rest_is}
use Rattle.vg_cert.proofs.HeadLemmas.{needless, cells_due}
use Rattle.vg_cert.proofs.read.read_placement.Goals as goal

pub returns-then-is_needless-clause-lines : goal.returns-then-is_needless-clause-lines
returns-then-is_needless-clause-lines c =
    needless (reading c.args.source.now) c.args.head c.args.place.now _ c.not_due.result c.requires.head c.if-is_needless.ensures.0 c.if-is_needless.ensures.1 c.requires.start c.requires.up_to
    (rest_is c.args.source.now.bytes.now c.args.place.now.at) c.not_due.ensures

pub read_cells-requires-clause-due : goal.read_cells-requires-clause-due
read_cells-requires-clause-due c = cells_due (reading c.args.source.now) c.args.head c.args.place.now.count c.requires.head c.requires.start c.if-is_needless.ensures
