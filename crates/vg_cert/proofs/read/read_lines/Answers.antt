use Rattle.std.proofs.Common.{◌∙◌, arith, sym, refl}
use Rattle.vg_cert.specs.Readings.{reading}
use Rattle.vg_cert.proofs.SectionLemmas.{sections_due}
use Rattle.vg_cert.proofs.FitLemmas.{live_each, denoted, fits}
use Rattle.vg_cert.proofs.read.read_lines.Goals as goal

pub read_lists-requires-clause-due : goal.read_lists-requires-clause-due
read_lists-requires-clause-due c =
    let h = c.in_ok-head.ensures in
    let p = c.in_ok-placement.ensures.lines in
    sections_due (reading c.args.source.now) c.read_placement.new.place.count (omega (arith, p.1, h.1, h.2.cells, c.start-place.ensures.count))

pub read_lists-requires-clause-each : goal.read_lists-requires-clause-each
read_lists-requires-clause-each c = live_each (reading c.args.source.now).problem ∙ sym c.requires.names.nodes_each

pub returns-clause-denotes : goal.returns-clause-denotes
returns-clause-denotes c =
    let h = c.in_ok-head.ensures in
    let p = c.in_ok-placement.ensures.lines in
    denoted (reading c.args.source.now) c.in_ok-head.head c.read_placement.new.place.count _ _ c.requires.names h.2 refl p.2 (omega (arith, p.1, h.1, h.2.cells, c.start-place.ensures.count)) c.in_ok-lists.ensures.lists

pub returns-clause-fits : goal.returns-clause-fits
returns-clause-fits c =
    let h = c.in_ok-head.ensures in
    let p = c.in_ok-placement.ensures in
    fits (reading c.args.source.now) c.in_ok-head.head c.read_placement.new.place.count _ _ c.requires.names h.2 refl p.lines.2 p.needless c.in_ok-lists.ensures.lists
