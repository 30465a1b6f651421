use Rattle.std.proofs.Common.{sym, ◌∷◌, subst, rules}
use Rattle.vg_cert.specs.Readings.{reading, AreSectionsDue, Reads, AreListsOf, section_size}
use Rattle.vg_cert.proofs.NodeLemmas.{dead_read}
use Rattle.vg_cert.proofs.read.read_lists_of.Goals as goal

pub read_section-requires-clause-due : goal.read_section-requires-clause-due
read_section-requires-clause-due c =
    let (rest, due) = c.requires.due in
    (rest, subst (λ b. AreSectionsDue (reading c.args.source.now) c.args.place.now.count c.args.v (b ∷ rest)) c.if-live.true due)

pub returns-then-live : goal.returns-then-live
returns-then-live c =
    subst (λ b. Reads c.read_section.result (reading c.args.source.now) c.args.place.now c.read_section.new.place (section_size (reading c.args.source.now) c.args.place.now.count b) (AreListsOf (reading c.args.source.now) c.args.place.now.count b))
    (sym c.if-live.true) c.read_section.ensures

pub returns : goal.returns
returns c =
    let d = dead_read (reading c.args.source.now) c.args.place.now c.args.live (record { even = c.new.result; odd = c.new-2.result }) c.if-live.false (search rules) (search rules) in
    (c.requires.up_to, d.0, d.1)
