use Rattle.std.proofs.Common.{◌∙◌, ap, arith}
use Rattle.vg_cert.specs.Readings.{reading, role_of}
use Rattle.vg_cert.proofs.SectionLemmas.{end_here, end_over}
use Rattle.vg_cert.proofs.EndLemmas.{further, all_clear}
use Rattle.vg_cert.proofs.read.read_end.Goals as goal

pub read_last-requires-clause-due : goal.read_last-requires-clause-due
read_last-requires-clause-due c = end_here (reading c.args.source.now) c.args.place.now.count c.requires.due

pub returns-then-place-source-clause-fault : goal.returns-then-place-source-clause-fault
returns-then-place-source-clause-fault c =
    let p = c.in_ok-read_last.ensures in
    further (reading c.args.source.now) c.read_last.new.place c.next_fault.result p.0 (ap (role_of (reading c.args.source.now)) p.1 ∙ end_over (reading c.args.source.now) c.args.place.now.count c.requires.due)
    (omega (arith, c.if-place-source.true)) c.next_fault.ensures.kind c.next_fault.ensures.line

pub returns-clause-faultless : goal.returns-clause-faultless
returns-clause-faultless c =
    let p = c.in_ok-read_last.ensures in
    all_clear (reading c.args.source.now) c.read_last.new.place p.0 (ap (role_of (reading c.args.source.now)) p.1 ∙ end_over (reading c.args.source.now) c.args.place.now.count c.requires.due)
    (omega (arith, c.if-place-source.false))
