use Rattle.std.proofs.Common.{◌<◌, sym, subst, Option}
use Rattle.cand_pool.specs.Pools.{items_of}
use Rattle.cand_pool.specs.declared.ends.Cand.{Cand}
use Rattle.vg_convex.proofs.Walks.{left_from}
use Rattle.vg_slack.proofs.RootLemmas.{walk_begins, at_place, walk_on, walk_falls, modest_here}
use Rattle.vg_slack.proofs.root.best_candidate.Goals as goal

pub walk-init : goal.walk-init
walk-init g c =
    walk_begins c.args.p.now c.args.pool.now (items_of c.args.pool.now c.args.list.now) c.first-next.result c.args.steps.now
    (c.first-next.ensures (items_of c.args.pool.now c.args.list.now) c.requires.live)

pub better-best-requires-clause-low : goal.better-best-requires-clause-low
better-best-requires-clause-low g c =
    let xs = items_of c.args.pool.now c.args.list.now in
    let at = at_place c.args.p.now c.args.pool.now xs c.walk.next c.in-Some.place c.walk.best c.args.steps.now c.walk.steps c.in-Some.is c.walk.invariant in
    rw ((c.tell-told.ensures.told at.here at.after at.at).0)
    (modest_here c.args.p.now c.args.pool.now xs c.in-Some.place c.walk.best c.args.steps.now c.walk.steps c.requires.modest at).low

pub better-best-requires-clause-high : goal.better-best-requires-clause-high
better-best-requires-clause-high g c =
    let xs = items_of c.args.pool.now c.args.list.now in
    let at = at_place c.args.p.now c.args.pool.now xs c.walk.next c.in-Some.place c.walk.best c.args.steps.now c.walk.steps c.in-Some.is c.walk.invariant in
    rw ((c.tell-told.ensures.told at.here at.after at.at).0)
    (modest_here c.args.p.now c.args.pool.now xs c.in-Some.place c.walk.best c.args.steps.now c.walk.steps c.requires.modest at).high

pub better-best-requires-clause-load : goal.better-best-requires-clause-load
better-best-requires-clause-load g c =
    let xs = items_of c.args.pool.now c.args.list.now in
    let at = at_place c.args.p.now c.args.pool.now xs c.walk.next c.in-Some.place c.walk.best c.args.steps.now c.walk.steps c.in-Some.is c.walk.invariant in
    rw ((c.tell-told.ensures.told at.here at.after at.at).1)
    (modest_here c.args.p.now c.args.pool.now xs c.in-Some.place c.walk.best c.args.steps.now c.walk.steps c.requires.modest at).load

pub walk-smaller : goal.walk-smaller
walk-smaller g c =
    let xs = items_of c.args.pool.now c.args.list.now in
    let at = at_place c.args.p.now c.args.pool.now xs c.walk.next c.in-Some.place c.walk.best c.args.steps.now c.walk.steps c.in-Some.is c.walk.invariant in
    subst (λ (o : Option Cand). left_from c.args.pool.now c.next-next.result < left_from c.args.pool.now o) (sym c.in-Some.is)
    (walk_falls c.args.p.now c.args.pool.now xs c.in-Some.place c.walk.best c.next-next.result c.args.steps.now c.walk.steps at c.next-next.ensures)

pub walk-preserved : goal.walk-preserved
walk-preserved g c =
    let xs = items_of c.args.pool.now c.args.list.now in
    let at = at_place c.args.p.now c.args.pool.now xs c.walk.next c.in-Some.place c.walk.best c.args.steps.now c.walk.steps c.in-Some.is c.walk.invariant in
    walk_on c.args.p.now c.args.pool.now xs c.in-Some.place c.walk.best c.better-best.result c.next-next.result c.args.steps.now c.walk.steps
    c.tell-told.new.steps at
    c.next-next.ensures (c.better-best.ensures at.seen at.here (c.tell-told.ensures.told at.here at.after at.at) at.chosen) c.tell-told.ensures.step
