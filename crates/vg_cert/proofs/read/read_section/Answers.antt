use Rattle.std.proofs.Common.{arith}
use Rattle.vg_cert.specs.Readings.{reading}
use Rattle.vg_cert.proofs.SectionLemmas.{section_node}
use Rattle.vg_cert.proofs.NodeLemmas.{evens_are, odds_are, even_due, odd_due, section_read}
use Rattle.vg_cert.proofs.read.read_section.Goals as goal

pub read_node-requires-clause-due : goal.read_node-requires-clause-due
read_node-requires-clause-due c = let (live, due) = c.requires.due in section_node (reading c.args.source.now) c.args.place.now.count c.args.v live due

pub read_list-requires-clause-due : goal.read_list-requires-clause-due
read_list-requires-clause-due c =
    let (live, due) = c.requires.due in
    let p = c.in_ok-evens.ensures in
    even_due (reading c.args.source.now) c.args.place.now.count c.args.v live due _ _ p.1 (evens_are (reading c.args.source.now) c.args.place.now.count _ p.2.evens)

pub read_list-requires-2-clause-due : goal.read_list-requires-2-clause-due
read_list-requires-2-clause-due c =
    let (live, due) = c.requires.due in
    let r = reading c.args.source.now in
    let n = c.args.place.now.count in
    let p = c.in_ok-evens.ensures in
    let q = c.in_ok-even.ensures in
    let e = evens_are r n _ p.2.evens in
    odd_due r n c.args.v live due _ _ (omega (arith, q.1, p.1, e)) (odds_are r n _ p.2.odds)

pub returns : goal.returns
returns c =
    let r = reading c.args.source.now in
    let n = c.args.place.now.count in
    let p = c.in_ok-evens.ensures in
    let q = c.in_ok-even.ensures in
    let z = c.in_ok-odd.ensures in
    let e = evens_are r n _ p.2.evens in
    let o = odds_are r n _ p.2.odds in
    (z.0, omega (arith, z.1, q.1, p.1, e, o), section_read r n c.read_node.new.place.count c.read_list.new.place.count _ _ (record { even = c.in_ok-even.even; odd = c.in_ok-odd.odd }) p.1 e o q.1 q.2.0 z.2.0 q.2.1 z.2.1)
