use Rattle.std.proofs.Common.{◌+◌, ◌<◌, length, sym, subst, arith, rules, ◌∙◌, Option, to_z, of_z}
use Rattle.std.specs.Int.{w128}
use mir.Val.{SFits}
use Rattle.std.proofs.lemmas.Int.{to_z-of_z}
use Rattle.cand_pool.specs.Pools.{items_of}
use Rattle.cand_pool.specs.declared.ends.Cand.{Cand}
use Rattle.vg_convex.proofs.Walks.{left_from}
use Rattle.vg_slack.proofs.CopyLemmas.{copy_begins, copy_at, copy_more, copy_falls, pair_told}
use Rattle.vg_slack.proofs.lists.copy.Goals as goal

pub walk-init : goal.walk-init
walk-init g c =
    let xs = items_of c.args.pool.now c.args.list.now in
    copy_begins c.args.pool.now xs c.args.to.now.items c.first-next.result c.reserve_exact.new.self.items c.args.steps.now
    c.in_ok-reserve_exact.ensures.items (c.first-next.ensures xs c.requires.live)

pub returns-in_err-push-clause-steps : goal.returns-in_err-push-clause-steps
returns-in_err-push-clause-steps g c =
    let xs = items_of c.args.pool.now c.args.list.now in
    let at = copy_at c.args.pool.now xs c.args.to.now.items c.walk.next c.in-Some.place c.walk.to.items c.walk.steps (c.args.steps.now + length xs)
    c.in-Some.is c.walk.invariant in
    omega (arith, at.cost, c.tell-q.ensures.step)

pub walk-smaller : goal.walk-smaller
walk-smaller g c =
    let xs = items_of c.args.pool.now c.args.list.now in
    let at = copy_at c.args.pool.now xs c.args.to.now.items c.walk.next c.in-Some.place c.walk.to.items c.walk.steps (c.args.steps.now + length xs)
    c.in-Some.is c.walk.invariant in
    subst (λ (o : Option Cand). left_from c.args.pool.now c.next-next.result < left_from c.args.pool.now o) (sym c.in-Some.is)
    (copy_falls c.args.pool.now xs c.args.to.now.items c.in-Some.place c.next-next.result c.walk.to.items c.walk.steps (c.args.steps.now + length xs)
    at c.next-next.ensures)

pub walk-preserved : goal.walk-preserved
walk-preserved g c =
    let xs = items_of c.args.pool.now c.args.list.now in
    let most = c.args.steps.now + length xs in
    let at = copy_at c.args.pool.now xs c.args.to.now.items c.walk.next c.in-Some.place c.walk.to.items c.walk.steps most c.in-Some.is c.walk.invariant in
    let fits : SFits w128 c.tell-q.result.0 = search rules in
    let q = to_z w128 (of_z w128 c.tell-q.result.0) in
    let c_told = c.tell-q.result.1 in
    let (q_is, c_is, tag_is) = c.tell-q.ensures.told at.here at.after at.at in
    copy_more c.args.pool.now xs c.args.to.now.items c.in-Some.place c.next-next.result c.walk.to.items c.push.new.self.items
    (record { q = q; c = c_told }) c.walk.steps c.tell-q.new.steps most at c.next-next.ensures
    (pair_told at.here q c_told (to_z-of_z w128 c.tell-q.result.0 fits ∙ q_is) c_is) c.in_ok-push.ensures.items c.tell-q.ensures.step
