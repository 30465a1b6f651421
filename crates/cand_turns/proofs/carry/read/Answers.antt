use Rattle.std.proofs.Common.{◌+◌, ◌<◌, ◌≤◌, ◌^◌, sym, subst, rules, ◌∙◌, Option, to_z, of_z}
use Rattle.std.specs.Int.{w128}
use mir.Val.{SFits}
use Rattle.std.proofs.lemmas.Int.{to_z-of_z}
use Rattle.cand_pool.specs.Pools.{items_of}
use Rattle.cand_pool.specs.declared.ends.Cand.{Cand}
use Rattle.vg_convex.proofs.Walks.{left_from}
use Rattle.cand_turns.proofs.ReadLemmas.{read_begins, read_at, read_in, read_more, read_falls, result_told, load_told}
use Rattle.cand_turns.proofs.carry.read.Goals as goal

pub walk-init : goal.walk-init
walk-init g c =
    let xs = items_of c.args.pool.now c.args.from.now in
    read_begins c.args.pool.now xs c.args.row c.args.added c.first-next.result c.clear.new.self.items c.clear.ensures.items (c.first-next.ensures xs c.requires.live)

pub overflow_add-pair : goal.overflow_add-pair
overflow_add-pair g c =
    let xs = items_of c.args.pool.now c.args.from.now in
    let at = read_at c.args.pool.now xs c.args.row c.args.added c.walk.next c.in-Some.place c.walk.chosen.items c.in-Some.is c.walk.invariant in
    let (q_is, c_is, tag_is) = c.tell-q.ensures.told at.here at.after at.at in
    let small : c.tell-q.result.1 + c.args.added ≤ 10 ^ 11
    = load_told xs at.here c.tell-q.result.1 c.args.added (10 ^ 11) c.requires.modest (read_in c.args.pool.now xs c.args.row c.args.added c.in-Some.place c.walk.chosen.items at) c_is in
    search rules

pub walk-smaller : goal.walk-smaller
walk-smaller g c =
    let xs = items_of c.args.pool.now c.args.from.now in
    let at = read_at c.args.pool.now xs c.args.row c.args.added c.walk.next c.in-Some.place c.walk.chosen.items c.in-Some.is c.walk.invariant in
    subst (λ (o : Option Cand). left_from c.args.pool.now c.next-next.result < left_from c.args.pool.now o) (sym c.in-Some.is)
    (read_falls c.args.pool.now xs c.args.row c.args.added c.in-Some.place c.next-next.result c.walk.chosen.items at c.next-next.ensures)

pub walk-preserved : goal.walk-preserved
walk-preserved g c =
    let xs = items_of c.args.pool.now c.args.from.now in
    let at = read_at c.args.pool.now xs c.args.row c.args.added c.walk.next c.in-Some.place c.walk.chosen.items c.in-Some.is c.walk.invariant in
    let fits : SFits w128 c.tell-q.result.0 = search rules in
    let q = to_z w128 (of_z w128 c.tell-q.result.0) in
    let c_told = c.tell-q.result.1 in
    let tag = c.tell-q.result.2 in
    let (q_is, c_is, tag_is) = c.tell-q.ensures.told at.here at.after at.at in
    read_more c.args.pool.now xs c.args.row c.args.added c.in-Some.place c.next-next.result c.walk.chosen.items c.push.new.self.items
    (record { pair = record { q = q; c = c_told + c.args.added }; rep = c.args.row; tag = tag }) at c.next-next.ensures
    (result_told at.here q c_told tag c.args.row c.args.added (to_z-of_z w128 c.tell-q.result.0 fits ∙ q_is) c_is tag_is) c.in_ok-push.ensures.items
