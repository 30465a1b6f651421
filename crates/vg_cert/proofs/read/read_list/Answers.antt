use Rattle.std.proofs.Common.{sym, arith, rules, subst, List}
use Rattle.elmore.specs.declared.pair.Pair.{Pair}
use Rattle.std.proofs.Common.{None, Some, ◌+◌}
use Rattle.vg_cert.specs.Readings.{reading}
use Rattle.vg_cert.proofs.ListLemmas.{IsListUpTo, list_none, list_more, pair_due, list_read}
use Rattle.vg_cert.proofs.read.read_list.Goals as goal

pub pair-init : goal.pair-init
pair-init c =
    subst (λ (l : List Pair). IsListUpTo (reading c.args.source.now) c.args.place.now.count 0 c.args.place.now l None) (sym c.in-Ok.ensures) (list_none (reading c.args.source.now) c.args.place.now c.requires.up_to)

pub pair-preserved : goal.pair-preserved
pair-preserved c =
    let p = c.in_ok-pair.ensures in
    subst (λ (l : List Pair). IsListUpTo (reading c.args.source.now) c.args.place.now.count (c.pair.counter + 1) c.read_pair.new.place l (Some c.in_ok-pair.pair)) (sym (search rules))
    (list_more (reading c.args.source.now) c.args.place.now.count c.pair.counter c.pair.place c.read_pair.new.place c.pair.list.items c.pair.last c.in_ok-pair.pair c.pair.invariant p.0 p.1 p.2)

pub read_pair-requires-clause-up_to : goal.read_pair-requires-clause-up_to
read_pair-requires-clause-up_to c = c.pair.invariant.up_to

pub read_pair-requires-clause-due : goal.read_pair-requires-clause-due
read_pair-requires-clause-due c =
    let (role, due) = c.requires.due in
    (role, pair_due (reading c.args.source.now) c.args.place.now.count c.pair.counter c.args.count c.pair.place c.pair.list.items c.pair.last role due c.pair-test.true c.pair.invariant)

pub returns : goal.returns
returns c =
    list_read (reading c.args.source.now) c.args.place.now.count c.pair.counter c.args.count c.pair.place c.pair.list.items c.pair.last (omega (arith, c.pair-test.false, c.pair.auto.counter-end)) c.requires.few c.pair.invariant
