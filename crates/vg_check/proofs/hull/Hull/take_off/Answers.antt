use Rattle.std.proofs.Common.{sym, subst}
use Rattle.elmore.specs.Pairs.{IsBelow}
use Rattle.vg_check.specs.Hulls.{pair_at, IsLast}
use Rattle.vg_check.specs.declared.hull.Point.{Point}
use Rattle.vg_check.proofs.HullLemmas.{further_goes_on, point_below, point_here}
use Rattle.vg_check.proofs.hull.Hull.take_off.Goals as goal

pub last_over-last-requires-clause-below : goal.last_over-last-requires-clause-below
last_over-last-requires-clause-below c =
    let ready = rw c.deref.ensures.value at c.staying-top.ensures.ready in
    subst (λ (p : Point). IsBelow (pair_at c.args.pairs.now p.at) (pair_at c.args.pairs.now c.args.self.now.next))
    (sym (point_here c.args.self.now.points.items c.staying-top.result c.index.result.now ready.inside c.index.ensures))
    (point_below c.args.pairs.now c.args.self.now.next c.args.self.now.points.items c.staying-top.result c.requires.rising c.requires.hull c.requires.next
    ready.inside)

pub returns-clause-hull : goal.returns-clause-hull
returns-clause-hull c =
    let ready = rw c.deref.ensures.value at c.staying-top.ensures.ready in
    further_goes_on c.args.pairs.now c.args.self.now.next c.args.self.now.points.items c.truncate.new.self.items c.staying-top.result c.last_over-last.result
    c.requires.hull ready c.requires.next
    (subst (λ (p : Point). IsLast (pair_at c.args.pairs.now p.at) (pair_at c.args.pairs.now c.args.self.now.next) c.last_over-last.result)
    (point_here c.args.self.now.points.items c.staying-top.result c.index.result.now ready.inside c.index.ensures) c.last_over-last.ensures)
    (rw c.deref.ensures.value at c.staying-top.ensures.stays) c.truncate.ensures.items
